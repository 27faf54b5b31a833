-- The table of the SMBus device is fair: at a stop nothing is held any more. And what it holds stays bytes. The induction
-- goes over the data of a write.
use Rattle.std.proofs.Common.{ℕ, ◌+◌, ◌%◌, ◌==◌, ◌<◌, ◌≤◌, nat_lt, Bool, true, false, if◌then◌else◌, List, [], ◌∷◌, ◌++◌, replicate, set}
use Rattle.std.proofs.Common.{inl, inr, refl, arith}
use Rattle.std.specs.Prelude.{bit_xor}
use Rattle.std.specs.List.{AllByRecursion}
use Rattle.std.proofs.lemmas.Nat.{xor_of_8}
use Rattle.i2c_base.specs.Board.{RunView}
use Rattle.i2c_base.specs.Bytes.{IsByte}
use Rattle.i2c_base.specs.declared.event.Event.{Event}
use Rattle.i2c_base.specs.declared.event.Event.TheVariants as event
use Rattle.i2c_base.specs.declared.event.Answer.TheVariants as answer
use Rattle.i2c_spec.specs.Targets.SmbusDevice.{SmbusView, SmbusPhase, Idle, Command, Data, Checked, Read, IsSmbusOfBytes, address_byte}
use Rattle.i2c_spec.specs.Targets.SmbusDevice.{code_so_far, data_byte, dropped, held_written, is_whole, memory_left, read_length}
use Rattle.i2c_spec.specs.Targets.SmbusDevice.{smbus_after, smbus_get, smbus_put, smbus_put_answer, smbus_sends, smbus_opening, smbus_table}
use Rattle.i2c_spec.specs.Targets.SmbusDevice.{takes_effect}
use Rattle.i2c_spec.specs.Targets.{IsAckOrNack, IsByteEvent, IsFairTable, KeepsBytes}
use Rattle.i2c_spec.proofs.ByteLemmas.{either, set_all, all_of, get_byte, append_bytes, RunsHoldBytes, runs_bytes}
use Rattle.smb_pec.specs.LongDivision.{pec_with}
use Rattle.smb_pec.proofs.TableLemmas.{code_is_byte}

code_answered : (right : Bool) → IsAckOrNack (if right then answer.Ack else answer.Nack)
code_answered true = inl refl
code_answered false = inr refl

data_answered : (whole right : Bool) → IsAckOrNack (if whole then (if right then answer.Ack else answer.Nack) else answer.Ack)
data_answered true right = code_answered right
data_answered false right = inl refl

put_answered : (x : SmbusView) (p : SmbusPhase) (byte : ℕ) → IsAckOrNack (smbus_put_answer x p byte)
put_answered x Idle byte = inr refl
put_answered x Command byte = inl refl
put_answered x Data byte = data_answered (is_whole x) (byte == x.code)
put_answered x Checked byte = inr refl
put_answered x (Read k) byte = inr refl

pub smbus_fair : IsFairTable smbus_table
smbus_fair = record {
  stops = λ x. record { other = refl; stop = refl };
  sends = λ x. refl;
  sends_last = λ x. refl;
  starts = λ x reading. inl refl;
  puts = λ x byte. put_answered x x.phase byte;
  other = λ x. refl;
  stop = λ x. refl;
}

-- what it holds stays bytes
held_bytes : (memory : List ℕ) (place : ℕ) (held : List ℕ) → AllByRecursion IsByte held → AllByRecursion IsByte memory
    → AllByRecursion IsByte (held_written memory place held)
held_bytes memory place [] bytes all = all
held_bytes memory place (byte ∷ held) bytes all =
    held_bytes (set memory place byte) ((place + 1) % 256) held bytes.1 (set_all IsByte memory place byte bytes.0 all)

left_bytes : (x : SmbusView) → IsSmbusOfBytes x → AllByRecursion IsByte (memory_left x)
left_bytes x all =
    either (AllByRecursion IsByte) (takes_effect x x.phase) (held_written x.memory x.command x.held) x.memory
    (held_bytes x.memory x.command x.held all.3 all.4) all.4

so_far_byte : (x : SmbusView) (p : SmbusPhase) → IsByte x.code → IsByte (code_so_far x p)
so_far_byte x Idle small = omega arith
so_far_byte x Command small = small
so_far_byte x Data small = small
so_far_byte x Checked small = small
so_far_byte x (Read k) small = small

address_is_byte : (addr : ℕ) (reading : Bool) → addr < 128 → IsByte (address_byte addr reading)
address_is_byte addr true near = omega arith
address_is_byte addr false near = omega arith

smbus_put_bytes : (x : SmbusView) (p : SmbusPhase) (byte : ℕ) → IsByte byte → IsSmbusOfBytes x → IsSmbusOfBytes (smbus_put x p byte)
smbus_put_bytes x Command byte small all = (all.0, all.1, code_is_byte x.code byte all.2 small, all.3, all.4)
smbus_put_bytes x Data byte small all =
    either IsSmbusOfBytes (is_whole x) (if byte == x.code then record x { phase = Checked } else dropped x)
    (record x { held = x.held ++ byte ∷ []; code = pec_with x.code byte })
    (either IsSmbusOfBytes (byte == x.code) (record x { phase = Checked }) (dropped x) all (all.0, all.1, all.2, tt, all.4))
    (all.0, all.1, code_is_byte x.code byte all.2 small, append_bytes x.held (byte ∷ []) all.3 (small, tt), all.4)
smbus_put_bytes x Checked byte small all = (all.0, all.1, all.2, tt, all.4)
smbus_put_bytes x Idle byte small all = all
smbus_put_bytes x (Read k) byte small all = all

smbus_got_bytes : (x : SmbusView) (p : SmbusPhase) (ack : Bool) → IsSmbusOfBytes x → IsSmbusOfBytes (smbus_get x p ack)
smbus_got_bytes x (Read k) ack all = (
  all.0,
  all.1,
  either IsByte (nat_lt k (read_length x)) (pec_with x.code (data_byte x k)) x.code
      (code_is_byte x.code (data_byte x k) all.2 (get_byte x.memory ((x.command + k) % 256) all.4)) all.2,
  all.3,
  all.4,
)
smbus_got_bytes x Idle ack all = all
smbus_got_bytes x Command ack all = all
smbus_got_bytes x Data ack all = all
smbus_got_bytes x Checked ack all = all

smbus_after_bytes : (x : SmbusView) (e : Event) → IsByteEvent e → IsSmbusOfBytes x → IsSmbusOfBytes (smbus_after x e)
smbus_after_bytes x (event.Start reading) fit all = (
  all.0,
  all.1,
  code_is_byte (code_so_far x x.phase) (address_byte x.addr reading) (so_far_byte x x.phase all.2) (address_is_byte x.addr reading all.0),
  tt,
  either (AllByRecursion IsByte) reading (memory_left x) x.memory (left_bytes x all) all.4,
)
smbus_after_bytes x (event.Put byte) fit all = smbus_put_bytes x x.phase byte fit all
smbus_after_bytes x (event.Get ack) fit all = smbus_got_bytes x x.phase ack all
smbus_after_bytes x event.Other fit all = (all.0, all.1, all.2, tt, all.4)
smbus_after_bytes x event.Stop fit all = (all.0, all.1, all.2, tt, left_bytes x all)

smbus_sent_byte : (x : SmbusView) (p : SmbusPhase) → IsSmbusOfBytes x → IsByte (smbus_sends x p)
smbus_sent_byte x (Read k) all =
    either IsByte (nat_lt k (read_length x)) (data_byte x k) (if k == read_length x then bit_xor x.code x.flip else 255)
    (get_byte x.memory ((x.command + k) % 256) all.4)
    (either IsByte (k == read_length x) (bit_xor x.code x.flip) 255 (xor_of_8 x.code x.flip all.2 all.1) (omega arith))
smbus_sent_byte x Idle all = omega arith
smbus_sent_byte x Command all = omega arith
smbus_sent_byte x Data all = omega arith
smbus_sent_byte x Checked all = omega arith

pub smbus_keep_bytes : KeepsBytes smbus_table IsSmbusOfBytes
smbus_keep_bytes = record { after = smbus_after_bytes; sends = λ x all. smbus_sent_byte x x.phase all; holds = λ x all. omega arith }

pub smbus_opening-bytes : (addr width flip : ℕ) (set : List RunView) → addr < 128 → flip ≤ 255 → RunsHoldBytes set
    → IsSmbusOfBytes (smbus_opening addr width flip set)
smbus_opening-bytes addr width flip set near most runs = (
  near,
  let small : flip < 256 = omega arith in small,
  let byte : 0 < 256 = omega arith in byte,
  tt,
  runs_bytes set (replicate 256 0) runs (all_of IsByte 256 0 (let small : 0 < 256 = omega arith in small)),
)

-- What is so of the devices of all kinds, since it is so of each kind: their table is fair, they are quiet at their opening, and
-- what they hold stays bytes. Each lemma has a line for each kind, which cites the kind's own.
pub mod EepromLemmas
pub mod Lm75Lemmas
pub mod RegsLemmas
pub mod SmbusLemmas
use Rattle.std.proofs.Common.{◌≡◌, ℕ, ◌<◌, ◌≤◌, Bool, true, false, inr, List, [], ◌∷◌, refl, sym, ap, subst, ◌∙◌, arith}
use Rattle.std.specs.List.{All}
use Rattle.std.specs.Option.{unwrap_or}
use Rattle.std.proofs.lemmas.List.Elements.{All-head, All-tail, recursion_from_All}
use Rattle.i2c_base.specs.declared.board.DeviceKind.{DeviceKind}
use Rattle.i2c_base.specs.declared.board.DeviceKind.TheVariants as kind
use Rattle.i2c_base.specs.Board.{DeviceView, RunView}
use Rattle.i2c_base.specs.Bytes.{IsByte}
use Rattle.i2c_base.specs.declared.event.Event.{Event}
use Rattle.i2c_base.specs.declared.event.Event.TheVariants as event
use Rattle.i2c_base.specs.declared.event.Answer.{Answer}
use Rattle.i2c_base.specs.declared.event.Answer.TheVariants as answer
use Rattle.i2c_spec.specs.Plain.{IsPlainRun, IsPlainDevice}
use Rattle.i2c_spec.specs.Targets.RegsDevice.{is_too_long}
use Rattle.i2c_base.specs.Table.{byte_of}
use Rattle.i2c_spec.specs.Targets.{
  TargetState,
  Eeprom,
  Lm75,
  Regs,
  Smbus,
  Silent,
  state_table,
  state_after,
  state_answer,
  state_sends,
  state_hold,
  IsQuiet,
  IsAckOrNack,
  IsStartAnswer,
  IsFairTable,
  HoldsBytes,
  IsByteEvent,
  KeepsBytes,
  FitsKind,
  row_of_kind,
  opening_state,
}
use Rattle.i2c_spec.proofs.ByteLemmas.{RunsHoldBytes}
use Rattle.i2c_spec.proofs.StateLemmas.EepromLemmas.{eeprom_fair, eeprom_keep_bytes, eeprom_opening-quiet, eeprom_opening-bytes}
use Rattle.i2c_spec.proofs.StateLemmas.Lm75Lemmas.{lm75_fair, lm75_keep_bytes, lm75_opening-bytes}
use Rattle.i2c_spec.proofs.StateLemmas.RegsLemmas.{regs_fair, regs_keep_bytes, regs_opening-bytes}
use Rattle.i2c_spec.proofs.StateLemmas.SmbusLemmas.{smbus_fair, smbus_keep_bytes, smbus_opening-bytes}

pub stopped-quiet : (x : TargetState) → IsQuiet state_table (state_after x event.Stop)
stopped-quiet (Eeprom x) = let q = eeprom_fair.stops x in record { other = ap Eeprom q.other; stop = ap Eeprom q.stop }
stopped-quiet (Lm75 x) = let q = lm75_fair.stops x in record { other = ap Lm75 q.other; stop = ap Lm75 q.stop }
stopped-quiet (Regs x) = let q = regs_fair.stops x in record { other = ap Regs q.other; stop = ap Regs q.stop }
stopped-quiet (Smbus x) = let q = smbus_fair.stops x in record { other = ap Smbus q.other; stop = ap Smbus q.stop }
stopped-quiet Silent = record { other = refl; stop = refl }

sends : (x : TargetState) (ack : Bool) → state_answer x (event.Get ack) ≡ answer.Byte (state_sends x)
sends (Eeprom x) ack = refl
sends (Lm75 x) ack = refl
sends (Regs x) ack = refl
sends (Smbus x) ack = refl
sends Silent ack = refl

starts : (x : TargetState) (reading : Bool) → IsStartAnswer (is_too_long (state_hold x)) (state_answer x (event.Start reading))
starts (Eeprom x) reading = eeprom_fair.starts x reading
starts (Lm75 x) reading = lm75_fair.starts x reading
starts (Regs x) reading = regs_fair.starts x reading
starts (Smbus x) reading = smbus_fair.starts x reading
starts Silent reading = inr refl

puts : (x : TargetState) (byte : ℕ) → IsAckOrNack (state_answer x (event.Put byte))
puts (Eeprom x) byte = eeprom_fair.puts x byte
puts (Lm75 x) byte = lm75_fair.puts x byte
puts (Regs x) byte = regs_fair.puts x byte
puts (Smbus x) byte = smbus_fair.puts x byte
puts Silent byte = inr refl

other : (x : TargetState) → state_answer x event.Other ≡ answer.Nothing
other (Eeprom x) = eeprom_fair.other x
other (Lm75 x) = lm75_fair.other x
other (Regs x) = regs_fair.other x
other (Smbus x) = smbus_fair.other x
other Silent = refl

stop : (x : TargetState) → state_answer x event.Stop ≡ answer.Nothing
stop (Eeprom x) = eeprom_fair.stop x
stop (Lm75 x) = lm75_fair.stop x
stop (Regs x) = regs_fair.stop x
stop (Smbus x) = smbus_fair.stop x
stop Silent = refl

pub states_fair : IsFairTable state_table
states_fair = record {
  stops = stopped-quiet;
  sends = λ x. sends x true;
  sends_last = λ x. sends x false;
  starts = starts;
  puts = puts;
  other = other;
  stop = stop;
}

-- a byte that is read is the same whether it is acknowledged or not
pub gives-same : (x : TargetState) (ack : Bool) → state_answer x (event.Get ack) ≡ state_answer x (event.Get true)
gives-same x ack = sends x ack ∙ sym (sends x true)

opening_of_kind : (k : DeviceKind) (addr : ℕ) (set : List RunView) → IsQuiet state_table ((row_of_kind k).opens addr set)
opening_of_kind (kind.Eeprom size fill busy wp) addr set = let q = eeprom_opening-quiet size fill busy wp set in
    record { other = ap Eeprom q.other; stop = ap Eeprom q.stop }
opening_of_kind (kind.Lm75 raw) addr set = record { other = refl; stop = refl }
opening_of_kind (kind.Regs hold) addr set = record { other = refl; stop = refl }
opening_of_kind (kind.Smbus width flip) addr set = record { other = refl; stop = refl }

pub opening-quiet : (d : DeviceView) → IsQuiet state_table (opening_state d)
opening-quiet d = opening_of_kind d.kind d.addr d.set

-- what they hold stays bytes
pub after-bytes : (x : TargetState) (e : Event) → IsByteEvent e → HoldsBytes x → HoldsBytes (state_after x e)
after-bytes (Eeprom x) e fit all = eeprom_keep_bytes.after x e fit all
after-bytes (Lm75 x) e fit all = lm75_keep_bytes.after x e fit all
after-bytes (Regs x) e fit all = regs_keep_bytes.after x e fit all
after-bytes (Smbus x) e fit all = smbus_keep_bytes.after x e fit all
after-bytes Silent e fit all = tt

sent-byte : (x : TargetState) → HoldsBytes x → IsByte (state_sends x)
sent-byte (Eeprom x) all = eeprom_keep_bytes.sends x all
sent-byte (Lm75 x) all = lm75_keep_bytes.sends x all
sent-byte (Regs x) all = regs_keep_bytes.sends x all
sent-byte (Smbus x) all = smbus_keep_bytes.sends x all
sent-byte Silent all = omega arith

held-byte : (x : TargetState) → HoldsBytes x → IsByte (state_hold x)
held-byte (Eeprom x) all = omega arith
held-byte (Lm75 x) all = omega arith
held-byte (Regs x) all = regs_keep_bytes.holds x all
held-byte (Smbus x) all = omega arith
held-byte Silent all = omega arith

pub states_keep_bytes : KeepsBytes state_table HoldsBytes
states_keep_bytes = record { after = after-bytes; sends = sent-byte; holds = held-byte }

pub sends-byte : (x : TargetState) (ack : Bool) → HoldsBytes x → IsByte (byte_of (state_answer x (event.Get ack)))
sends-byte x ack all = subst (λ (a : Answer). IsByte (byte_of a)) (sym (sends x ack)) (sent-byte x all)

plain_runs : (size : ℕ) (runs : List RunView) → All (IsPlainRun size) runs → RunsHoldBytes runs
plain_runs size [] all = tt
plain_runs size (r ∷ rs) all = (
  recursion_from_All IsByte r.bytes (All-head (IsPlainRun size) r rs all).bytes,
  plain_runs size rs
      (All-tail (IsPlainRun size) r rs all),
)

opened_bytes : (k : DeviceKind) (addr : ℕ) (set : List RunView) → addr < 128 → FitsKind k → RunsHoldBytes set
    → HoldsBytes ((row_of_kind k).opens addr set)
opened_bytes (kind.Eeprom size fill busy wp) addr set near fits runs = eeprom_opening-bytes size fill busy wp set fits.0.1 runs
opened_bytes (kind.Lm75 raw) addr set near fits runs = lm75_opening-bytes raw fits.0.1
opened_bytes (kind.Regs hold) addr set near fits runs = regs_opening-bytes hold set fits.0.1 runs
opened_bytes (kind.Smbus width flip) addr set near fits runs = smbus_opening-bytes addr width flip set near fits.1.0.1 runs

pub opening-bytes : (d : DeviceView) → IsPlainDevice d → HoldsBytes (opening_state d)
opening-bytes d plain =
    let last : d.addr ≤ 119 = plain.address.1 in
    opened_bytes d.kind d.addr d.set (omega arith) plain.kind (plain_runs (unwrap_or (row_of_kind d.kind).memory 0) d.set plain.runs)

-- The table of an LM75 is fair, and what it holds stays bytes, and words of two. No induction.
use Rattle.std.proofs.Common.{ℕ, ◌*◌, ◌/◌, ◌%◌, ◌==◌, ◌<◌, ◌≤◌, Bool, if◌then◌else◌, inl, inr, refl, arith}
use Rattle.i2c_base.specs.Bytes.{IsByte, IsWord}
use Rattle.i2c_base.specs.declared.event.Event.{Event}
use Rattle.i2c_base.specs.declared.event.Event.TheVariants as event
use Rattle.i2c_spec.specs.Targets.Lm75Device.{Lm75View, Lm75Phase, Idle, Pointer, Data, Read, IsLm75OfBytes, byte_of_word, lm75_after}
use Rattle.i2c_spec.specs.Targets.Lm75Device.{lm75_get, lm75_put, lm75_put_answer, lm75_sends, lm75_opening, lm75_table, register_sends}
use Rattle.i2c_spec.specs.Targets.Lm75Device.{register_written, with_high, with_low, word_written}
use Rattle.i2c_spec.specs.Targets.{IsAckOrNack, IsByteEvent, IsFairTable, KeepsBytes}
use Rattle.i2c_spec.proofs.ByteLemmas.{either}

put_answered : (p : Lm75Phase) → IsAckOrNack (lm75_put_answer p)
put_answered Idle = inr refl
put_answered Pointer = inl refl
put_answered (Data k) = inl refl
put_answered (Read k) = inr refl

pub lm75_fair : IsFairTable lm75_table
lm75_fair = record {
  stops = λ x. record { other = refl; stop = refl };
  sends = λ x. refl;
  sends_last = λ x. refl;
  starts = λ x reading. inl refl;
  puts = λ x byte. put_answered x.phase;
  other = λ x. refl;
  stop = λ x. refl;
}

-- what it holds stays bytes, and words of two
written_word : (word k byte : ℕ) → IsWord word → IsByte byte → IsWord (word_written word k byte)
written_word word k byte fits small =
    either IsWord (k == 0) (with_high word byte) (if k == 1 then with_low word byte else word) (omega arith)
    (either IsWord (k == 1) (with_low word byte) word (omega arith) fits)

written_register : (x : Lm75View) (k byte : ℕ) → IsByte byte → IsLm75OfBytes x → IsLm75OfBytes (register_written x k byte)
written_register x k byte small all =
    either IsLm75OfBytes (x.pointer == 1) one two
    (either IsLm75OfBytes (k == 0) (record x { configuration = byte }) x (all.0, small, all.2, all.3) all)
    (either IsLm75OfBytes (x.pointer == 2) (record x { hysteresis = word_written x.hysteresis k byte }) three
    (all.0, all.1, written_word x.hysteresis k byte all.2 small, all.3)
    (either IsLm75OfBytes (x.pointer == 3) (record x { limit = word_written x.limit k byte }) x
    (all.0, all.1, all.2, written_word x.limit k byte all.3 small) all))
  where
    one : Lm75View
    one = if k == 0 then record x { configuration = byte } else x

    three : Lm75View
    three = if x.pointer == 3 then record x { limit = word_written x.limit k byte } else x

    two : Lm75View
    two = if x.pointer == 2 then record x { hysteresis = word_written x.hysteresis k byte } else three

lm75_put_bytes : (x : Lm75View) (p : Lm75Phase) (byte : ℕ) → IsByte byte → IsLm75OfBytes x → IsLm75OfBytes (lm75_put x p byte)
lm75_put_bytes x Pointer byte small all = all
lm75_put_bytes x (Data k) byte small all = written_register x k byte small all
lm75_put_bytes x Idle byte small all = all
lm75_put_bytes x (Read k) byte small all = all

lm75_got_bytes : (x : Lm75View) (p : Lm75Phase) (ack : Bool) → IsLm75OfBytes x → IsLm75OfBytes (lm75_get x p ack)
lm75_got_bytes x (Read k) ack all = all
lm75_got_bytes x Idle ack all = all
lm75_got_bytes x Pointer ack all = all
lm75_got_bytes x (Data k) ack all = all

lm75_after_bytes : (x : Lm75View) (e : Event) → IsByteEvent e → IsLm75OfBytes x → IsLm75OfBytes (lm75_after x e)
lm75_after_bytes x (event.Start reading) fit all = all
lm75_after_bytes x (event.Put byte) fit all = lm75_put_bytes x x.phase byte fit all
lm75_after_bytes x (event.Get ack) fit all = lm75_got_bytes x x.phase ack all
lm75_after_bytes x event.Other fit all = all
lm75_after_bytes x event.Stop fit all = all

word_byte : (word k : ℕ) → IsWord word → IsByte (byte_of_word word k)
word_byte word k fits = either IsByte (k % 2 == 0) (word / 256) (word % 256) (omega arith) (omega arith)

register_byte : (x : Lm75View) (k : ℕ) → IsLm75OfBytes x → IsByte (register_sends x k)
register_byte x k all =
    either IsByte (x.pointer == 0) (byte_of_word x.temperature k)
    (if x.pointer == 1 then x.configuration else if x.pointer == 2 then byte_of_word x.hysteresis k else byte_of_word x.limit k)
    (word_byte x.temperature k all.0)
    (either IsByte (x.pointer == 1) x.configuration (if x.pointer == 2 then byte_of_word x.hysteresis k else byte_of_word x.limit k) all.1
    (either IsByte (x.pointer == 2) (byte_of_word x.hysteresis k) (byte_of_word x.limit k) (word_byte x.hysteresis k all.2)
    (word_byte x.limit k all.3)))

lm75_sent_byte : (x : Lm75View) (p : Lm75Phase) → IsLm75OfBytes x → IsByte (lm75_sends x p)
lm75_sent_byte x (Read k) all = register_byte x k all
lm75_sent_byte x Idle all = omega arith
lm75_sent_byte x Pointer all = omega arith
lm75_sent_byte x (Data k) all = omega arith

pub lm75_keep_bytes : KeepsBytes lm75_table IsLm75OfBytes
lm75_keep_bytes = record { after = lm75_after_bytes; sends = λ x all. lm75_sent_byte x x.phase all; holds = λ x all. omega arith }

pub lm75_opening-bytes : (raw : ℕ) → raw ≤ 65535 → IsLm75OfBytes (lm75_opening raw)
lm75_opening-bytes raw most = (
  let word : raw / 128 * 128 < 65536 = omega arith in word,
  let byte : 0 < 256 = omega arith in byte,
  let word : 0x4B00 < 65536 = omega arith in word,
  let word : 0x5000 < 65536 = omega arith in word,
)

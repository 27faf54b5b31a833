-- The table of an EEPROM is fair: a stop with no byte that waits changes nothing. And what it holds stays bytes. The
-- inductions go over the places of a page.
use Rattle.std.proofs.Common.{◌≡◌, ℕ, zero, suc, ◌-◌, ◌<◌, ◌≤◌, Bool, true, false, inl, inr, List, [], ◌∷◌, ◌++◌, take, drop, replicate}
use Rattle.std.proofs.Common.{Option, Some, None, is_some, if◌then◌else◌, nat_lt, refl, ◌∙◌, ap, arith}
use Rattle.std.specs.Prelude.{IfSome, unwrap_or}
use Rattle.std.specs.List.{AllByRecursion, list_any}
use Rattle.std.proofs.lemmas.List.{take-append-drop}
use Rattle.i2c_base.specs.declared.board.Size.{Size}
use Rattle.i2c_base.specs.Board.{RunView}
use Rattle.i2c_base.specs.Bytes.{IsByte}
use Rattle.i2c_base.specs.declared.event.Event.{Event}
use Rattle.i2c_base.specs.declared.event.Event.TheVariants as event
use Rattle.i2c_base.specs.declared.event.Answer.TheVariants as answer
use Rattle.i2c_spec.specs.Targets.EepromDevice.{EepromView, EepromPhase, Idle, Address, Data, Read, IsEepromOfBytes, clear_to, none_waiting}
use Rattle.i2c_spec.specs.Targets.EepromDevice.{in_page, is_wide, page_start, page_of_eeprom, pointed, size_of_eeprom, taken_in, waits}
use Rattle.i2c_spec.specs.Targets.EepromDevice.{written_at, eeprom_after, eeprom_begun, eeprom_get, eeprom_put, eeprom_sends, eeprom_stop}
use Rattle.i2c_spec.specs.Targets.EepromDevice.{eeprom_put_answer, eeprom_opening, eeprom_table, some_waiting, with_waiting}
use Rattle.i2c_spec.specs.Targets.{IsAckOrNack, IsByteEvent, IsFairTable, IsQuiet, KeepsBytes}
use Rattle.i2c_spec.proofs.ByteLemmas.{either, set_all, all_of, get_byte, take_bytes, drop_bytes, append_bytes, RunsHoldBytes, runs_bytes}

taken_none : (n : ℕ) (bytes : List ℕ) → taken_in (replicate n None) bytes ≡ bytes
taken_none zero bytes = refl
taken_none (suc n) [] = refl
taken_none (suc n) (byte ∷ bytes) = ap (λ (bs : List ℕ). byte ∷ bs) (taken_none n bytes)

none_waits : (n : ℕ) → list_any {X = Option ℕ} is_some (replicate n None) ≡ false
none_waits zero = refl
none_waits (suc n) = none_waits n

written_none : (memory : List ℕ) (start n : ℕ) → written_at memory start (replicate n None) ≡ memory
written_none memory start n = ap (λ (bytes : List ℕ). take start memory ++ bytes) (taken_none n (drop start memory))
    ∙ take-append-drop start memory

stopped-clear : (x : EepromView) → eeprom_stop (clear_to x Idle) ≡ clear_to x Idle
stopped-clear x =
    ap (λ (m : List ℕ). record (clear_to x Idle) { memory = m; left = if list_any is_some (none_waiting x.size) then x.busy else x.left })
    (written_none x.memory (page_start x.size x.pointer) (page_of_eeprom x.size))
    ∙ ap (λ (some : Bool). record (clear_to x Idle) { left = if some then x.busy else x.left }) (none_waits (page_of_eeprom x.size))

started : (busy : Bool) → IsAckOrNack (if busy then answer.Nack else answer.Ack)
started false = inl refl
started true = inr refl

put_answered : (x : EepromView) (p : EepromPhase) → IsAckOrNack (eeprom_put_answer x p)
put_answered x Idle = inr refl
put_answered x (Address high) = inl refl
put_answered x Data = started x.wp
put_answered x Read = inr refl

pub eeprom_fair : IsFairTable eeprom_table
eeprom_fair = record {
  stops = λ x. record { other = refl; stop = stopped-clear (record (with_waiting x) { left = if some_waiting x then x.busy else x.left }) };
  sends = λ x. refl;
  sends_last = λ x. refl;
  starts = λ x reading. started (nat_lt 0 x.left);
  puts = λ x byte. put_answered x x.phase;
  other = λ x. refl;
  stop = λ x. refl;
}

pub eeprom_opening-quiet : (size : Size) (fill busy : ℕ) (wp : Bool) (set : List RunView)
    → IsQuiet eeprom_table (eeprom_opening size fill busy wp set)
eeprom_opening-quiet size fill busy wp set = record { other = refl; stop = stopped-clear (eeprom_opening size fill busy wp set) }

-- what it holds stays bytes
abbrev Place : Option ℕ → Type 0
Place place = IfSome place IsByte

cleared : (x : EepromView) (p : EepromPhase) → IsEepromOfBytes x → IsEepromOfBytes (clear_to x p)
cleared x p all = (all.0, all_of Place (page_of_eeprom x.size) None tt)

eeprom_put_bytes : (x : EepromView) (p : EepromPhase) (byte : ℕ) → IsByte byte → IsEepromOfBytes x → IsEepromOfBytes (eeprom_put x p byte)
eeprom_put_bytes x (Address None) byte small all =
    either IsEepromOfBytes (is_wide x.size) (record x { phase = Address (Some byte) }) (pointed x byte) all all
eeprom_put_bytes x (Address (Some high)) byte small all = all
eeprom_put_bytes x Data byte small all =
    either IsEepromOfBytes x.wp (clear_to x Idle) (waits x byte) (cleared x Idle all)
    (all.0, set_all Place x.waiting (in_page x.size x.pointer) (Some byte) small all.1)
eeprom_put_bytes x Idle byte small all = all
eeprom_put_bytes x Read byte small all = all

eeprom_got_bytes : (x : EepromView) (p : EepromPhase) (ack : Bool) → IsEepromOfBytes x → IsEepromOfBytes (eeprom_get x p ack)
eeprom_got_bytes x Read ack all = all
eeprom_got_bytes x Idle ack all = all
eeprom_got_bytes x (Address high) ack all = all
eeprom_got_bytes x Data ack all = all

taken_byte : (place : Option ℕ) (byte : ℕ) → Place place → IsByte byte → IsByte (unwrap_or place byte)
taken_byte None byte is small = small
taken_byte (Some new) byte is small = is

taken_bytes : (waiting : List (Option ℕ)) (bytes : List ℕ) → AllByRecursion Place waiting → AllByRecursion IsByte bytes
    → AllByRecursion IsByte (taken_in waiting bytes)
taken_bytes [] bytes wait all = all
taken_bytes (w ∷ ws) [] wait all = tt
taken_bytes (w ∷ ws) (byte ∷ bytes) wait all = (taken_byte w byte wait.0 all.0, taken_bytes ws bytes wait.1 all.1)

eeprom_stop_bytes : (x : EepromView) → IsEepromOfBytes x → IsEepromOfBytes (eeprom_stop x)
eeprom_stop_bytes x all =
    let start = page_start x.size x.pointer in
    let page = taken_bytes x.waiting (drop start x.memory) all.1 (drop_bytes start x.memory all.0) in (
      append_bytes (take start x.memory) (taken_in x.waiting (drop start x.memory)) (take_bytes start x.memory all.0) page,
      all_of Place (page_of_eeprom x.size) None tt,
    )

eeprom_after_bytes : (x : EepromView) (e : Event) → IsByteEvent e → IsEepromOfBytes x → IsEepromOfBytes (eeprom_after x e)
eeprom_after_bytes x (event.Start reading) fit all =
    either IsEepromOfBytes (nat_lt 0 x.left) (record (clear_to x Idle) { left = x.left - 1 }) (clear_to x (eeprom_begun reading))
    (cleared x Idle all) (cleared x (eeprom_begun reading) all)
eeprom_after_bytes x (event.Put byte) fit all = eeprom_put_bytes x x.phase byte fit all
eeprom_after_bytes x (event.Get ack) fit all = eeprom_got_bytes x x.phase ack all
eeprom_after_bytes x event.Other fit all = cleared x Idle all
eeprom_after_bytes x event.Stop fit all = eeprom_stop_bytes x all

eeprom_sent_byte : (x : EepromView) (p : EepromPhase) → AllByRecursion IsByte x.memory → IsByte (eeprom_sends x p)
eeprom_sent_byte x Read all = get_byte x.memory x.pointer all
eeprom_sent_byte x Idle all = omega arith
eeprom_sent_byte x (Address high) all = omega arith
eeprom_sent_byte x Data all = omega arith

pub eeprom_keep_bytes : KeepsBytes eeprom_table IsEepromOfBytes
eeprom_keep_bytes = record { after = eeprom_after_bytes; sends = λ x all. eeprom_sent_byte x x.phase all.0; holds = λ x all. omega arith }

pub eeprom_opening-bytes : (size : Size) (fill busy : ℕ) (wp : Bool) (set : List RunView) → fill ≤ 255 → RunsHoldBytes set
    → IsEepromOfBytes (eeprom_opening size fill busy wp set)
eeprom_opening-bytes size fill busy wp set most runs =
    let small : fill < 256 = omega arith in (
      runs_bytes set (replicate (size_of_eeprom size) fill) runs (all_of IsByte (size_of_eeprom size) fill small),
      all_of Place
          (page_of_eeprom size) None tt,
    )

-- Every device of a board, whatever its kind, as one type of states with one table, and what is so of each kind: a row.
-- A further kind of device adds a case, a line of each function, a row, and the file of its table, which has its keys too.
pub mod EepromDevice
pub mod Lm75Device
pub mod RegsDevice
pub mod SmbusDevice
use Rattle.std.specs.Prelude.{⊤, ◌≡◌, ℕ, Bool, true, false, ◌⊎◌, List, [], ◌∷◌, Option, Some, None}
use Rattle.std.specs.List.{AllByRecursion}
use Rattle.i2c_base.specs.declared.board.DeviceKind.{DeviceKind}
use Rattle.i2c_base.specs.declared.board.DeviceKind.TheVariants as kind
use Rattle.i2c_base.specs.declared.event.Event.{Event}
use Rattle.i2c_base.specs.declared.event.Event.TheVariants as event
use Rattle.i2c_base.specs.declared.event.Answer.{Answer}
use Rattle.i2c_base.specs.declared.event.Answer.TheVariants as answer
use Rattle.i2c_base.specs.Board.{DeviceView, RunView}
use Rattle.i2c_base.specs.Bytes.{IsByte}
use Rattle.i2c_base.specs.Table.{Table}
use Rattle.i2c_spec.specs.Numbers.{NumberKey, IsFor}
use Rattle.i2c_spec.specs.Targets.EepromDevice.{EepromView, IsEepromOfBytes, fill_key, busy_key, eeprom_after, eeprom_answer, eeprom_sends, eeprom_opening, size_of_eeprom}
use Rattle.i2c_spec.specs.Targets.Lm75Device.{Lm75View, IsLm75OfBytes, raw_key, lm75_after, lm75_answer, lm75_sends, lm75_opening}
use Rattle.i2c_spec.specs.Targets.SmbusDevice.{SmbusView, IsSmbusOfBytes, width_key, flip_key, smbus_after, smbus_answer, smbus_sends, smbus_opening}
use Rattle.i2c_spec.specs.Targets.RegsDevice.{RegsView, IsRegsOfBytes, hold_key, regs_after, regs_answer, regs_sends, regs_opening, is_too_long}

pub data TargetState : Type 0 where
  Eeprom : (x : EepromView) → TargetState
  Lm75 : (x : Lm75View) → TargetState
  Regs : (x : RegsView) → TargetState
  Smbus : (x : SmbusView) → TargetState
  -- the place of a device that was taken out: it acknowledges nothing
  Silent : TargetState

abbrev pub silent_answer : Event → Answer
silent_answer (event.Start reading) = answer.Nack
silent_answer (event.Put byte) = answer.Nack
silent_answer (event.Get ack) = answer.Byte 255
silent_answer event.Other = answer.Nothing
silent_answer event.Stop = answer.Nothing

abbrev pub state_after : TargetState → Event → TargetState
state_after (Eeprom x) e = Eeprom (eeprom_after x e)
state_after (Lm75 x) e = Lm75 (lm75_after x e)
state_after (Regs x) e = Regs (regs_after x e)
state_after (Smbus x) e = Smbus (smbus_after x e)
state_after Silent e = Silent

abbrev pub state_answer : TargetState → Event → Answer
state_answer (Eeprom x) e = eeprom_answer x e
state_answer (Lm75 x) e = lm75_answer x e
state_answer (Regs x) e = regs_answer x e
state_answer (Smbus x) e = smbus_answer x e
state_answer Silent e = silent_answer e

abbrev pub state_sends : TargetState → ℕ
state_sends (Eeprom x) = eeprom_sends x x.phase
state_sends (Lm75 x) = lm75_sends x x.phase
state_sends (Regs x) = regs_sends x x.phase
state_sends (Smbus x) = smbus_sends x x.phase
state_sends Silent = 255

abbrev pub state_hold : TargetState → ℕ
state_hold (Eeprom x) = 0
state_hold (Lm75 x) = 0
state_hold (Regs x) = x.hold
state_hold (Smbus x) = 0
state_hold Silent = 0

abbrev pub state_table : Table TargetState
state_table = record { after = state_after; answer = state_answer; sends = state_sends; hold = state_hold }

-- what a device holds are bytes, and words of two, and an address that it keeps has seven bits: then the AND of one byte that
-- is sent and the idle wires is that byte, and a clock that is held is let go within 255 looks
abbrev pub HoldsBytes : TargetState → Type 0
HoldsBytes (Eeprom x) = IsEepromOfBytes x
HoldsBytes (Lm75 x) = IsLm75OfBytes x
HoldsBytes (Regs x) = IsRegsOfBytes x
HoldsBytes (Smbus x) = IsSmbusOfBytes x
HoldsBytes Silent = ⊤

-- what is so of a device by its kind: its numbers, each with its key; the size of the memory that `set` writes, where it
-- has one; and its state at the opening, at its address and with what is set
pub record Number : Type 0 where
  pub key : NumberKey
  pub value : ℕ

pub record KindRow : Type 0 where
  pub numbers : List Number
  pub memory : Option ℕ
  pub opens : (addr : ℕ) → List RunView → TargetState

abbrev pub of_key : NumberKey → ℕ → Number
of_key key n = record { key = key; value = n }

abbrev pub row_of_kind : DeviceKind → KindRow
row_of_kind (kind.Eeprom size fill busy wp) =
    record {
      numbers = of_key fill_key fill ∷ of_key busy_key busy ∷ [];
      memory = Some (size_of_eeprom size);
      opens = λ addr set. Eeprom (eeprom_opening size fill busy wp set);
    }
row_of_kind (kind.Lm75 raw) = record { numbers = of_key raw_key raw ∷ []; memory = None; opens = λ addr set. Lm75 (lm75_opening raw) }
row_of_kind (kind.Regs hold) = record {
  numbers = of_key hold_key hold ∷ [];
  memory = Some 256;
  opens = λ addr set. Regs (regs_opening hold set);
}
row_of_kind (kind.Smbus width flip) =
    record {
      numbers = of_key width_key width ∷ of_key flip_key flip ∷ [];
      memory = Some 256;
      opens = λ addr set. Smbus (smbus_opening addr width flip set);
    }

-- each number of a device is one that its key allows
abbrev pub FitsKind : DeviceKind → Type 0
FitsKind k = AllByRecursion (λ n. IsFor n.key n.value) (row_of_kind k).numbers

abbrev pub opening_state : DeviceView → TargetState
opening_state d = (row_of_kind d.kind).opens d.addr d.set

-- a state is quiet where starts for others and stops leave it as it is
pub record IsQuiet {X : Type 0} (t : Table X) (x : X) : Type 0 where
  pub other : t.after x event.Other ≡ x
  pub stop : t.after x event.Stop ≡ x

-- who is asked for an acknowledge gives it or not (UM10204 section 3.1.6)
abbrev pub IsAckOrNack : Answer → Type 0
IsAckOrNack a = (a ≡ answer.Ack) ⊎ (a ≡ answer.Nack)

-- a start is too slow for the controller exactly where the clock is held too long
abbrev pub IsStartAnswer : (slow : Bool) → Answer → Type 0
IsStartAnswer true a = a ≡ answer.Slow
IsStartAnswer false a = IsAckOrNack a

-- what a table promises: after a stop a target is quiet, a byte that is read is the one that it sends, and each event is
-- answered by what belongs to it
pub record IsFairTable {X : Type 0} (t : Table X) : Type 0 where
  pub stops : (x : X) → IsQuiet t (t.after x event.Stop)
  pub sends : (x : X) → t.answer x (event.Get true) ≡ answer.Byte (t.sends x)
  pub sends_last : (x : X) → t.answer x (event.Get false) ≡ answer.Byte (t.sends x)
  pub starts : (x : X) (reading : Bool) → IsStartAnswer (is_too_long (t.hold x)) (t.answer x (event.Start reading))
  pub puts : (x : X) (byte : ℕ) → IsAckOrNack (t.answer x (event.Put byte))
  pub other : (x : X) → t.answer x event.Other ≡ answer.Nothing
  pub stop : (x : X) → t.answer x event.Stop ≡ answer.Nothing

-- what is put is a byte
abbrev pub IsByteEvent : Event → Type 0
IsByteEvent (event.Put byte) = IsByte byte
IsByteEvent (event.Start reading) = ⊤
IsByteEvent (event.Get ack) = ⊤
IsByteEvent event.Other = ⊤
IsByteEvent event.Stop = ⊤

-- where a target holds bytes, it goes on to, sends one, and holds the clock for at most so many looks
pub record KeepsBytes {X : Type 0} (t : Table X) (Holds : X → Type 0) : Type 0 where
  pub after : (x : X) (e : Event) → IsByteEvent e → Holds x → Holds (t.after x e)
  pub sends : (x : X) → Holds x → IsByte (t.sends x)
  pub holds : (x : X) → Holds x → IsByte (t.hold x)

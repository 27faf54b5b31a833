-- The EEPROMs 24C02, 24C32 and 24C256, by the data sheets of Microchip (24AA02/24LC02B; 24AA32A; 24AA256/24LC256): device
-- addressing, byte write, page write, acknowledge polling, write protection, read operation. What a refused byte, a start
-- that comes first, or a start while it is busy leaves behind is this project's own, and so is that `busy` counts starts.
use Rattle.std.specs.Prelude.{ℕ, ◌+◌, ◌*◌, ◌-◌, ◌/◌, ◌%◌, nat_lt, Bool, true, false, List, [], ◌∷◌, slice_index, slice_set, take, drop, ◌++◌, replicate, is_some, Option, Some, None, IfSome, unwrap_or, if◌then◌else◌, codes}
use Rattle.std.specs.List.{AllByRecursion, list_any}
use Rattle.i2c_base.specs.declared.event.Event.{Event}
use Rattle.i2c_base.specs.declared.event.Event.TheVariants as event
use Rattle.i2c_base.specs.declared.event.Answer.{Answer}
use Rattle.i2c_base.specs.declared.event.Answer.TheVariants as answer
use Rattle.i2c_base.specs.declared.board.Size.{Size}
use Rattle.i2c_base.specs.declared.board.Size.TheVariants.{C02, C32, C256}
use Rattle.i2c_base.specs.Board.{RunView}
use Rattle.i2c_base.specs.Bytes.{IsByte}
use Rattle.i2c_base.specs.Table.{Table}
use Rattle.i2c_spec.specs.Numbers.{NumberKey}
use Rattle.i2c_spec.specs.Targets.RegsDevice.{write_runs}

-- its numbers: what each byte holds, and how many starts it refuses after a write
abbrev pub fill_key : NumberKey
fill_key = record { name = codes "fill"; low = 0; high = 255; default = 255 }

abbrev pub busy_key : NumberKey
busy_key = record { name = codes "busy"; low = 0; high = 255; default = 0 }

-- how many bytes it has, how many places a page has, and whether its address is two bytes long, the high one first
abbrev pub size_of_eeprom : Size → ℕ
size_of_eeprom C02 = 256
size_of_eeprom C32 = 4096
size_of_eeprom C256 = 32768

abbrev pub page_of_eeprom : Size → ℕ
page_of_eeprom C02 = 8
page_of_eeprom C32 = 32
page_of_eeprom C256 = 64

abbrev pub is_wide : Size → Bool
is_wide C02 = false
is_wide C32 = true
is_wide C256 = true

-- what has come of the message in progress: nothing; its address, and maybe the high byte of the place; the whole place; or
-- a read
pub data EepromPhase : Type 0 where
  Idle : EepromPhase
  Address : (high : Option ℕ) → EepromPhase
  Data : EepromPhase
  Read : EepromPhase

pub record EepromView : Type 0 where
  pub size : Size
  pub phase : EepromPhase
  pub pointer : ℕ
  pub memory : List ℕ
  -- the bytes that wait for the stop, by their places in the page of the pointer
  pub waiting : List (Option ℕ)
  -- how many starts it still refuses, out of `busy` after each write
  pub left : ℕ
  pub busy : ℕ
  -- its bytes are protected from writes
  pub wp : Bool

-- no byte waits
abbrev pub none_waiting : Size → List (Option ℕ)
none_waiting size = replicate (page_of_eeprom size) None

-- the message in progress has come to this phase, and no byte waits
abbrev pub clear_to : EepromView → EepromPhase → EepromView
clear_to x phase = record x { phase = phase; waiting = none_waiting x.size }

abbrev pub eeprom_begun : Bool → EepromPhase
eeprom_begun false = Address None
eeprom_begun true = Read

abbrev pub eeprom_start : EepromView → Bool → EepromView
eeprom_start x reading = if nat_lt 0 x.left then record (clear_to x Idle) { left = x.left - 1 } else clear_to x (eeprom_begun reading)

-- the place of a byte in its page, and the place after it, from the page's end on its start
abbrev pub in_page : Size → ℕ → ℕ
in_page size pointer = pointer % page_of_eeprom size

abbrev pub page_start : Size → ℕ → ℕ
page_start size pointer = pointer / page_of_eeprom size * page_of_eeprom size

abbrev pub next_in_page : Size → ℕ → ℕ
next_in_page size pointer = page_start size pointer + in_page size (pointer + 1)

-- the address is whole
abbrev pub pointed : EepromView → ℕ → EepromView
pointed x address = record x { phase = Data; pointer = address % size_of_eeprom x.size }

-- a byte waits for the pointer's place, in place of one that waited for it before, and the pointer moves on in its page
abbrev pub waits : EepromView → ℕ → EepromView
waits x byte = record x { waiting = slice_set x.waiting (in_page x.size x.pointer) (Some byte); pointer = next_in_page x.size x.pointer }

abbrev pub eeprom_put : EepromView → EepromPhase → ℕ → EepromView
eeprom_put x (Address None) byte = if is_wide x.size then record x { phase = Address (Some byte) } else pointed x byte
eeprom_put x (Address (Some high)) byte = pointed x (256 * high + byte)
eeprom_put x Data byte = if x.wp then clear_to x Idle else waits x byte
eeprom_put x Idle byte = x
eeprom_put x Read byte = x

abbrev pub eeprom_put_answer : EepromView → EepromPhase → Answer
eeprom_put_answer x (Address high) = answer.Ack
eeprom_put_answer x Data = if x.wp then answer.Nack else answer.Ack
eeprom_put_answer x Idle = answer.Nack
eeprom_put_answer x Read = answer.Nack

-- a byte that is read: the one at the pointer, which moves on and wraps at the end of memory
abbrev pub eeprom_get : EepromView → EepromPhase → Bool → EepromView
eeprom_get x Read ack = record x { pointer = (x.pointer + 1) % size_of_eeprom x.size; phase = if ack then Read else Idle }
eeprom_get x Idle ack = x
eeprom_get x (Address high) ack = x
eeprom_get x Data ack = x

abbrev pub eeprom_sends : EepromView → EepromPhase → ℕ
eeprom_sends x Read = slice_index x.memory x.pointer
eeprom_sends x Idle = 255
eeprom_sends x (Address high) = 255
eeprom_sends x Data = 255

-- each place takes the byte that waits for it, and keeps its own where none waits
abbrev pub taken_in : List (Option ℕ) → List ℕ → List ℕ
taken_in [] bytes = bytes
taken_in (w ∷ ws) [] = []
taken_in (w ∷ ws) (byte ∷ bytes) = unwrap_or w byte ∷ taken_in ws bytes

abbrev pub written_at : List ℕ → ℕ → List (Option ℕ) → List ℕ
written_at memory start waiting = take start memory ++ taken_in waiting (drop start memory)

-- the bytes that wait are written to their places
abbrev pub with_waiting : EepromView → EepromView
with_waiting x = record x { memory = written_at x.memory (page_start x.size x.pointer) x.waiting }

abbrev pub some_waiting : EepromView → Bool
some_waiting x = list_any is_some x.waiting

abbrev pub eeprom_stop : EepromView → EepromView
eeprom_stop x = record (clear_to (with_waiting x) Idle) { left = if some_waiting x then x.busy else x.left }

-- the table, a line for each event
abbrev pub eeprom_after : EepromView → Event → EepromView
eeprom_after x (event.Start reading) = eeprom_start x reading
eeprom_after x (event.Put byte) = eeprom_put x x.phase byte
eeprom_after x (event.Get ack) = eeprom_get x x.phase ack
eeprom_after x event.Other = clear_to x Idle
eeprom_after x event.Stop = eeprom_stop x

abbrev pub eeprom_answer : EepromView → Event → Answer
eeprom_answer x (event.Start reading) = if nat_lt 0 x.left then answer.Nack else answer.Ack
eeprom_answer x (event.Put byte) = eeprom_put_answer x x.phase
eeprom_answer x (event.Get ack) = answer.Byte (eeprom_sends x x.phase)
eeprom_answer x event.Other = answer.Nothing
eeprom_answer x event.Stop = answer.Nothing

abbrev pub eeprom_table : Table EepromView
eeprom_table = record { after = eeprom_after; answer = eeprom_answer; sends = λ x. eeprom_sends x x.phase; hold = λ x. 0 }

-- what it holds are bytes
abbrev pub IsEepromOfBytes : EepromView → Type 0
IsEepromOfBytes x = AllByRecursion IsByte x.memory × AllByRecursion (λ place. IfSome place IsByte) x.waiting

-- every byte is `fill` but for those that are set
abbrev pub eeprom_opening : Size → ℕ → ℕ → Bool → List RunView → EepromView
eeprom_opening size fill busy wp set = record {
  size = size;
  phase = Idle;
  pointer = 0;
  memory = write_runs (replicate (size_of_eeprom size) fill) set;
  waiting = none_waiting size;
  left = 0;
  busy = busy;
  wp = wp;
}

-- The SMBus device: 256 registers and a command that says where the data begin. A write is its command, the data and maybe
-- their error code; a read gives the data and their error code (SMBus 3.2, sections 6.4 and 6.5). That it takes a write without
-- an error code too, and what it does with too few bytes or too many, is this project's own.
use Rattle.std.specs.Prelude.{ℕ, ◌+◌, ◌*◌, ◌%◌, ◌==◌, ◌&&◌, ◌<◌, min, nat_lt, Bool, true, false, List, [], ◌∷◌, ◌++◌, length, slice_index, slice_set, replicate, bit_xor, if◌then◌else◌, codes}
use Rattle.std.specs.List.{AllByRecursion}
use Rattle.i2c_base.specs.declared.event.Event.{Event}
use Rattle.i2c_base.specs.declared.event.Event.TheVariants as event
use Rattle.i2c_base.specs.declared.event.Answer.{Answer}
use Rattle.i2c_base.specs.declared.event.Answer.TheVariants as answer
use Rattle.i2c_base.specs.Board.{RunView}
use Rattle.i2c_base.specs.Bytes.{IsByte}
use Rattle.i2c_base.specs.Table.{Table}
use Rattle.i2c_spec.specs.Numbers.{NumberKey}
use Rattle.i2c_spec.specs.Targets.RegsDevice.{write_runs}
use Rattle.smb_pec.specs.LongDivision.{pec_with}

-- its numbers: how many bytes its data have, and what is wrong with its error code
abbrev pub width_key : NumberKey
width_key = record { name = codes "width"; low = 0; high = 2; default = 1 }

abbrev pub flip_key : NumberKey
flip_key = record { name = codes "flip"; low = 0; high = 255; default = 0 }

-- what has come of the message in progress: nothing, its address, the command and maybe data, the error code of whole data
-- too, or a read of which k bytes were read
pub data SmbusPhase : Type 0 where
  Idle : SmbusPhase
  Command : SmbusPhase
  Data : SmbusPhase
  Checked : SmbusPhase
  Read : (k : ℕ) → SmbusPhase

pub record SmbusView : Type 0 where
  pub addr : ℕ
  -- how many bytes its data have; 0 stands for a block, of which the first byte is the count of the others
  pub width : ℕ
  -- what its error codes are wrong by
  pub flip : ℕ
  pub phase : SmbusPhase
  pub command : ℕ
  -- the error code of the bytes from the first start on
  pub code : ℕ
  -- the data of a write, until it takes effect
  pub held : List ℕ
  pub memory : List ℕ

-- how many bytes the data have, whose first byte is this one: in a write the first that is held, in a read the register of
-- the command
abbrev pub data_length : ℕ → ℕ → ℕ
data_length width first = if width == 0 then 1 + first else width

abbrev pub first_held : List ℕ → ℕ
first_held [] = 0
first_held (byte ∷ bytes) = byte

abbrev pub write_length : SmbusView → ℕ
write_length x = data_length x.width (first_held x.held)

abbrev pub read_length : SmbusView → ℕ
read_length x = data_length x.width (slice_index x.memory x.command)

abbrev pub is_whole : SmbusView → Bool
is_whole x = nat_lt 0 (length x.held) && (length x.held == write_length x)

-- the data go to the register of the command and those after it, from the last one on to the first
abbrev pub held_written : List ℕ → ℕ → List ℕ → List ℕ
held_written memory place [] = memory
held_written memory place (byte ∷ bytes) = held_written (slice_set memory place byte) ((place + 1) % 256) bytes

-- a write takes effect where its data are whole, and no error code came or the right one
abbrev pub takes_effect : SmbusView → SmbusPhase → Bool
takes_effect x Data = is_whole x
takes_effect x Checked = true
takes_effect x Idle = false
takes_effect x Command = false
takes_effect x (Read k) = false

abbrev pub memory_left : SmbusView → List ℕ
memory_left x = if takes_effect x x.phase then held_written x.memory x.command x.held else x.memory

abbrev pub with_effect : SmbusView → SmbusView
with_effect x = record x { memory = memory_left x }

-- the data that are held are dropped
abbrev pub dropped : SmbusView → SmbusView
dropped x = record x { phase = Idle; held = [] }

-- the error code is of all messages since the first start (SMBus 3.2, section 6.4)
abbrev pub code_so_far : SmbusView → SmbusPhase → ℕ
code_so_far x Idle = 0
code_so_far x Command = x.code
code_so_far x Data = x.code
code_so_far x Checked = x.code
code_so_far x (Read k) = x.code

abbrev pub address_byte : ℕ → Bool → ℕ
address_byte addr reading = 2 * addr + (if reading then 1 else 0)

abbrev pub smbus_begun : Bool → SmbusPhase
smbus_begun false = Command
smbus_begun true = Read 0

-- a read that follows on a write lets it take effect
abbrev pub smbus_start : SmbusView → Bool → SmbusView
smbus_start x reading =
    record x {
      phase = smbus_begun reading;
      code = pec_with (code_so_far x x.phase) (address_byte x.addr reading);
      memory = if reading then memory_left x else x.memory;
      held = [];
    }

-- a byte that is put: the command, then the data, then their error code
abbrev pub smbus_put : SmbusView → SmbusPhase → ℕ → SmbusView
smbus_put x Command byte = record x { phase = Data; command = byte; code = pec_with x.code byte }
smbus_put x Data byte =
    if is_whole x then (if byte == x.code then record x { phase = Checked } else dropped x)
    else record x { held = x.held ++ byte ∷ []; code = pec_with x.code byte }
smbus_put x Checked byte = dropped x
smbus_put x Idle byte = x
smbus_put x (Read k) byte = x

abbrev pub smbus_put_answer : SmbusView → SmbusPhase → ℕ → Answer
smbus_put_answer x Command byte = answer.Ack
smbus_put_answer x Data byte = if is_whole x then (if byte == x.code then answer.Ack else answer.Nack) else answer.Ack
smbus_put_answer x Checked byte = answer.Nack
smbus_put_answer x Idle byte = answer.Nack
smbus_put_answer x (Read k) byte = answer.Nack

-- a byte that is read: the data, then their error code
abbrev pub data_byte : SmbusView → ℕ → ℕ
data_byte x k = slice_index x.memory ((x.command + k) % 256)

abbrev pub smbus_sends : SmbusView → SmbusPhase → ℕ
smbus_sends x (Read k) =
    if nat_lt k (read_length x) then data_byte x k
    else if k == read_length x then bit_xor x.code x.flip
    else 255
smbus_sends x Idle = 255
smbus_sends x Command = 255
smbus_sends x Data = 255
smbus_sends x Checked = 255

-- what was read is counted up to the end of sixteen bits, which is past every error code
abbrev pub one_more_read : ℕ → ℕ
one_more_read k = min (k + 1) 65535

abbrev pub smbus_get : SmbusView → SmbusPhase → Bool → SmbusView
smbus_get x (Read k) ack =
    record x {
      code = if nat_lt k (read_length x) then pec_with x.code (data_byte x k) else x.code;
      phase = if ack then Read (one_more_read k) else Idle;
    }
smbus_get x Idle ack = x
smbus_get x Command ack = x
smbus_get x Data ack = x
smbus_get x Checked ack = x

-- the table, a line for each event
abbrev pub smbus_after : SmbusView → Event → SmbusView
smbus_after x (event.Start reading) = smbus_start x reading
smbus_after x (event.Put byte) = smbus_put x x.phase byte
smbus_after x (event.Get ack) = smbus_get x x.phase ack
smbus_after x event.Other = dropped x
smbus_after x event.Stop = dropped (with_effect x)

abbrev pub smbus_answer : SmbusView → Event → Answer
smbus_answer x (event.Start reading) = answer.Ack
smbus_answer x (event.Put byte) = smbus_put_answer x x.phase byte
smbus_answer x (event.Get ack) = answer.Byte (smbus_sends x x.phase)
smbus_answer x event.Other = answer.Nothing
smbus_answer x event.Stop = answer.Nothing

abbrev pub smbus_table : Table SmbusView
smbus_table = record { after = smbus_after; answer = smbus_answer; sends = λ x. smbus_sends x x.phase; hold = λ x. 0 }

-- what it holds are bytes, and its address has seven bits
abbrev pub IsSmbusOfBytes : SmbusView → Type 0
IsSmbusOfBytes x = (x.addr < 128) × IsByte x.flip × IsByte x.code × AllByRecursion IsByte x.held × AllByRecursion IsByte x.memory

abbrev pub smbus_opening : ℕ → ℕ → ℕ → List RunView → SmbusView
smbus_opening addr width flip set = record {
  addr = addr;
  width = width;
  flip = flip;
  phase = Idle;
  command = 0;
  code = 0;
  held = [];
  memory = write_runs (replicate 256 0) set;
}

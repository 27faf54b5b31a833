-- The register device: 256 registers behind a pointer that a write sets. This project's own.
use Rattle.std.specs.Prelude.{ℕ, ◌+◌, ◌%◌, nat_lt, Bool, true, false, List, [], ◌∷◌, length, slice_index, slice_set, take, drop, ◌++◌, replicate, if◌then◌else◌, codes}
use Rattle.std.specs.List.{AllByRecursion}
use Rattle.i2c_base.specs.declared.event.Event.{Event}
use Rattle.i2c_base.specs.declared.event.Event.TheVariants as event
use Rattle.i2c_base.specs.declared.event.Answer.{Answer}
use Rattle.i2c_base.specs.declared.event.Answer.TheVariants as answer
use Rattle.i2c_base.specs.Board.{RunView}
use Rattle.i2c_base.specs.Bytes.{IsByte}
use Rattle.i2c_base.specs.Limits.{MOST_LOOKS}
use Rattle.i2c_base.specs.Table.{Table}
use Rattle.i2c_spec.specs.Numbers.{NumberKey}

-- its number: for how many looks it holds the clock
abbrev pub hold_key : NumberKey
hold_key = record { name = codes "hold"; low = 0; high = 200; default = 0 }

-- what has come of the message in progress: nothing, its address, the pointer too, or a read
pub data RegsPhase : Type 0 where
  Idle : RegsPhase
  Pointer : RegsPhase
  Data : RegsPhase
  Read : RegsPhase

pub record RegsView : Type 0 where
  pub phase : RegsPhase
  pub pointer : ℕ
  pub memory : List ℕ
  -- for how many looks it holds the clock at its address; above MOST_LOOKS the controller gives up
  pub hold : ℕ

-- a controller looks so often at a clock that is held
abbrev pub is_too_long : ℕ → Bool
is_too_long hold = nat_lt MOST_LOOKS hold

abbrev pub begun : Bool → RegsPhase
begun false = Pointer
begun true = Read

-- a byte that is put: the pointer, then the register there
abbrev pub regs_put : RegsView → RegsPhase → ℕ → RegsView
regs_put x Pointer byte = record x { phase = Data; pointer = byte }
regs_put x Data byte = record x { memory = slice_set x.memory x.pointer byte; pointer = (x.pointer + 1) % 256 }
regs_put x Idle byte = x
regs_put x Read byte = x

abbrev pub regs_put_answer : RegsPhase → Answer
regs_put_answer Pointer = answer.Ack
regs_put_answer Data = answer.Ack
regs_put_answer Idle = answer.Nack
regs_put_answer Read = answer.Nack

-- a byte that is read: the register at the pointer, which moves on
abbrev pub regs_get : RegsView → RegsPhase → Bool → RegsView
regs_get x Read ack = record x { pointer = (x.pointer + 1) % 256; phase = if ack then Read else Idle }
regs_get x Idle ack = x
regs_get x Pointer ack = x
regs_get x Data ack = x

abbrev pub regs_sends : RegsView → RegsPhase → ℕ
regs_sends x Read = slice_index x.memory x.pointer
regs_sends x Idle = 255
regs_sends x Pointer = 255
regs_sends x Data = 255

-- the table, a line for each row
abbrev pub regs_after : RegsView → Event → RegsView
regs_after x (event.Start reading) = record x { phase = if is_too_long x.hold then Idle else begun reading }
regs_after x (event.Put byte) = regs_put x x.phase byte
regs_after x (event.Get ack) = regs_get x x.phase ack
regs_after x event.Other = record x { phase = Idle }
regs_after x event.Stop = record x { phase = Idle }

abbrev pub regs_answer : RegsView → Event → Answer
regs_answer x (event.Start reading) = if is_too_long x.hold then answer.Slow else answer.Ack
regs_answer x (event.Put byte) = regs_put_answer x.phase
regs_answer x (event.Get ack) = answer.Byte (regs_sends x x.phase)
regs_answer x event.Other = answer.Nothing
regs_answer x event.Stop = answer.Nothing

abbrev pub regs_table : Table RegsView
regs_table = record { after = regs_after; answer = regs_answer; sends = λ x. regs_sends x x.phase; hold = λ x. x.hold }

-- what it holds are bytes, and for how many looks it holds the clock is one
abbrev pub IsRegsOfBytes : RegsView → Type 0
IsRegsOfBytes x = AllByRecursion IsByte x.memory × IsByte x.hold

-- memory after a run of `set`, and after all of them, in order
abbrev pub write_run : List ℕ → RunView → List ℕ
write_run memory r = take r.start memory ++ r.bytes ++ drop (r.start + length r.bytes) memory

abbrev pub write_runs : List ℕ → List RunView → List ℕ
write_runs memory [] = memory
write_runs memory (r ∷ rs) = write_runs (write_run memory r) rs

abbrev pub regs_opening : ℕ → List RunView → RegsView
regs_opening hold set = record { phase = Idle; pointer = 0; memory = write_runs (replicate 256 0) set; hold = hold }

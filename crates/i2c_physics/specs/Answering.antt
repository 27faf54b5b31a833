-- What several targets answer to a call together.
use Rattle.std.specs.Prelude.{ℕ, ◌||◌, List, if◌then◌else◌}
use Rattle.i2c_base.specs.declared.event.Answer.{Answer}
use Rattle.i2c_base.specs.declared.event.Answer.TheVariants as answer
use Rattle.i2c_base.specs.declared.event.Event.{Event}
use Rattle.i2c_spec.specs.Chips.{chip_table}
use Rattle.i2c_spec.specs.Targets.{state_table}
use Rattle.i2c_spec.specs.World.{World, is_ack, is_slow, some_answer, and_of, answers, to_chips, to_devices}
use Rattle.i2c_physics.specs.declared.wired_and.WiredAnd.{WiredAnd}

abbrev pub wired_and_of : List (ℕ × Answer) → WiredAnd
wired_and_of xs =
    record {
      slow = some_answer is_slow xs;
      acked = some_answer is_ack xs;
      byte = and_of xs;
    }

-- the answer of a start by what chips and devices answer
abbrev pub start_answer : WiredAnd → WiredAnd → Answer
start_answer chips devices =
    if chips.slow || devices.slow then answer.Slow
    else if chips.acked || devices.acked then answer.Ack
    else answer.Nack

-- what the chips, and the devices, that have heard the start of the message answer to an event
abbrev pub chips_say : World → Event → WiredAnd
chips_say w e = wired_and_of (answers chip_table (to_chips w e) 0 w.chips)

abbrev pub devices_say : World → Event → WiredAnd
devices_say w e = wired_and_of (answers state_table (to_devices w e) 0 w.devices)

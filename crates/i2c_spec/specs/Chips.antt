-- The mux chips, by their data sheets (PCA9548, PCA9546, PCA9544 of NXP), and the arbitrator, which is only after
-- the PCA9541. A gpio mux has no chip; its line level stands in the same record.
use Rattle.std.specs.Prelude.{ℕ, ◌+◌, ◌-◌, ◌^◌, ◌%◌, ◌/◌, ◌==◌, nat_lt, Bool, not, ◌&&◌, ◌||◌, Option, Some, None, if◌then◌else◌}
use Rattle.i2c_base.specs.declared.board.MuxKind.{MuxKind}
use Rattle.i2c_base.specs.declared.mux_facts.ChannelCode.{ChannelCode}
use Rattle.i2c_base.specs.declared.mux_facts.ChannelCode.TheVariants.{Bits, Number, Alone, Level}
use Rattle.i2c_base.specs.declared.board.MuxSpec.{MuxSpec}
use Rattle.i2c_base.specs.declared.event.Event.{Event}
use Rattle.i2c_base.specs.declared.event.Event.TheVariants as event
use Rattle.i2c_base.specs.declared.event.Answer.{Answer}
use Rattle.i2c_base.specs.declared.event.Answer.TheVariants as answer
use Rattle.i2c_base.specs.Limits.{POLLS}
use Rattle.i2c_base.specs.Muxes.{facts_of}
use Rattle.i2c_base.specs.Table.{Table}

pub record ChipView : Type 0 where
  pub kind : MuxKind
  -- the control byte of a switch; 1 where an arbitrator is open, else 0; the level of a gpio mux
  pub control : ℕ
  -- a byte that came, and waits for the stop
  pub waiting : Option ℕ
  -- an arbitrator is found with its other controller so often, out of `foreign` after each close; POLLS is for good
  pub left : ℕ
  pub foreign : ℕ

-- bit i of a byte
abbrev pub bit_of : ℕ → ℕ → Bool
bit_of byte i = (byte / 2 ^ i) % 2 == 1

-- is this channel open at this control byte, or level
abbrev pub opens_by : ChannelCode → ℕ → ℕ → Bool
opens_by Bits control channel = bit_of control channel
opens_by (Number bit) control channel = bit_of control bit && (control % 2 ^ bit == channel)
opens_by Alone control channel = (control == 1) && (channel == 0)
opens_by Level control channel = control == channel + 1

abbrev pub opens : MuxKind → ℕ → ℕ → Bool
opens k control channel = opens_by (facts_of k).code control channel

abbrev pub is_open : ChipView → ℕ → Bool
is_open c channel = opens c.kind c.control channel

-- what a chip keeps of a byte
abbrev pub kept_bits : MuxKind → ℕ → ℕ
kept_bits k byte = byte % 2 ^ (facts_of k).bits

-- an arbitrator is free where no other controller is to be found any more
abbrev pub is_free : ChipView → Bool
is_free c = not (c.foreign == POLLS) && (c.left == 0)

-- a waiting byte is taken at the stop: bit 0 clear closes an arbitrator, bit 0 set opens it where it is free
abbrev pub arbitrated : ChipView → ℕ → ChipView
arbitrated c byte =
    if not (bit_of byte 0) then record c { control = 0; waiting = None; left = c.foreign }
    else if is_free c then record c { control = 1; waiting = None }
    else record c { waiting = None }

-- a mux that is switched by a line takes no byte
abbrev pub taken : MuxKind → ChipView → ℕ → ChipView
taken k c byte =
    if (facts_of k).asks then arbitrated c byte
    else if (facts_of k).by_line then c
    else record c { control = kept_bits k byte; waiting = None }

abbrev pub chip_stopped : ChipView → Option ℕ → ChipView
chip_stopped c None = c
chip_stopped c (Some byte) = taken c.kind c byte

-- a look at an arbitrator: 1 where it is with its other controller, which then is found once less
abbrev pub is_foreign : ChipView → Bool
is_foreign c = (c.foreign == POLLS) || nat_lt 0 c.left

abbrev pub looked : MuxKind → ChipView → ChipView
looked k c = if (facts_of k).asks then (if c.foreign == POLLS then c else record c { left = c.left - 1 }) else c

abbrev pub chip_sends : MuxKind → ChipView → ℕ
chip_sends k c =
    if (facts_of k).asks then (if is_foreign c then 1 else 0)
    else if (facts_of k).by_line then 255
    else c.control

abbrev pub chip_after : ChipView → Event → ChipView
chip_after c (event.Start reading) = c
chip_after c event.Other = c
chip_after c (event.Put byte) = record c { waiting = Some byte }
chip_after c (event.Get ack) = looked c.kind c
chip_after c event.Stop = chip_stopped c c.waiting

abbrev pub chip_answer : ChipView → Event → Answer
chip_answer c (event.Start reading) = answer.Ack
chip_answer c event.Other = answer.Nothing
chip_answer c (event.Put byte) = answer.Ack
chip_answer c (event.Get ack) = answer.Byte (chip_sends c.kind c)
chip_answer c event.Stop = answer.Nothing

abbrev pub chip_table : Table ChipView
chip_table = record { after = chip_after; answer = chip_answer; sends = λ c. chip_sends c.kind c; hold = λ c. 0 }

-- the line of a gpio mux is set: level 0 opens no channel, level k opens channel k - 1
abbrev pub at_level : ChipView → ℕ → ChipView
at_level c level = record c { control = level }

abbrev pub chip_opening : MuxSpec → ChipView
chip_opening m = record { kind = m.kind; control = 0; waiting = None; left = m.foreign; foreign = m.foreign }

-- what selects a channel, and what closes a mux: the byte that is written, or the level of the line
abbrev pub select_by : ChannelCode → ℕ → ℕ
select_by Bits channel = 2 ^ channel
select_by (Number bit) channel = 2 ^ bit + channel
select_by Alone channel = 1
select_by Level channel = channel + 1

abbrev pub select_value : MuxKind → ℕ → ℕ
select_value k channel = select_by (facts_of k).code channel

abbrev pub close_value : ℕ
close_value = 0

-- What is so of where a target stands within a byte.
use Rattle.std.specs.Prelude.{⊤, ◌<◌, ◌≤◌, ◌^◌, ◌-◌}
use Rattle.wire_spec.specs.declared.mode.Mode.{Mode}
use Rattle.wire_spec.specs.declared.mode.Mode.TheVariants.{Out, In, Answered, Give, Gave}

-- the bits that are missing and those that came are the eight of a byte (UM10204, "I2C-bus specification and user manual",
-- section 3.1.5)
abbrev pub IsMode : Mode → Type 0
IsMode Out = ⊤
IsMode (In address left value) = (0 < left) × (left ≤ 8) × (value < 2 ^ (8 - left))
IsMode (Answered begun acked next looks) = ⊤
IsMode (Give left) = left ≤ 8
IsMode (Gave more) = ⊤

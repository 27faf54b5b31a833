-- What an analyser reads off the levels of two wires: a start, each byte with the answer to it, and a stop (UM10204 sections 3.1.4 to
-- 3.1.6); and what the calls on a port tell.
use Rattle.std.specs.Prelude.{◌≡◌, ℕ, ◌+◌, ◌%◌, ◌==◌, Bool, true, not, List, [], ◌∷◌, if◌then◌else◌}
use Rattle.i2c_base.specs.declared.port.PortCall.{PortCall}
use Rattle.i2c_base.specs.declared.port.PortCall.TheVariants as call
use Rattle.i2c_spec.specs.World.{World, after, answer, takes, gives, is_ack}
use Rattle.wire_spec.specs.Wires.{shifted}
use Rattle.wire_spec.specs.Bus.{Bus, Sign, Level, Started, Stopped, Seen}
use Rattle.wire_spec.specs.Sites.{NodeState}
use Rattle.i2c_bits.specs.Wiring.{Rooted}
use Rattle.i2c_bits.specs.PortViews.{BitPortView}
use Rattle.i2c_bits.specs.Showing.{address_byte}
use Rattle.i2c_physics.specs.Shows.{ShowsCalls, are_quick, opened}
use Rattle.bus_waves.specs.Levels.{both_high, levels_along, showing}
use Rattle.bus_waves.specs.Recordings.{AreSteps}

pub data Read : Type 0 where
  Begun : Read
  Took : (byte : ℕ) → (acked : Bool) → Read
  Ended : Read

-- a byte goes over SDA as eight bits
abbrev pub took : ℕ → Bool → Read
took byte acked = Took (byte % 256) acked

-- how many levels came since the last whole byte, start or stop, the number that they are, and what was read so far, the last of it first
pub record Reading : Type 0 where
  pub came : ℕ
  pub value : ℕ
  pub read : List Read

abbrev pub reading_of : ℕ → ℕ → List Read → Reading
reading_of came value read = record { came = came; value = value; read = read }

-- the ninth level is the answer to a byte, low for an acknowledge; a start and a stop leave no byte unfinished
abbrev pub read_sign : Sign → Reading → Reading
read_sign (Level high) r =
    if r.came == 8 then reading_of 0 0 (Took r.value (not high) ∷ r.read)
    else reading_of (r.came + 1) (shifted r.value high) r.read
read_sign Started r = reading_of 0 0 (Begun ∷ r.read)
read_sign Stopped r = reading_of 0 0 (Ended ∷ r.read)

-- of all that was seen, the last of it first
abbrev pub reading : Seen → Reading
reading [] = reading_of 0 0 []
reading (s ∷ c) = read_sign s (reading c)

-- what a call tells in the world before it
abbrev pub call_tells : World → PortCall → List Read → List Read
call_tells w (call.Start addr reading) rs = took (address_byte addr reading) (is_ack (answer w addr reading)) ∷ Begun ∷ rs
call_tells w (call.Put byte) rs = took byte (takes w byte) ∷ rs
call_tells w (call.Get ack) rs = took (gives w) ack ∷ rs
call_tells w call.Stop rs = Ended ∷ rs
call_tells w call.Fault rs = rs
call_tells w (call.Line m level) rs = rs

-- and these calls, the first one first
abbrev pub tells : World → List PortCall → List Read → List Read
tells w [] rs = rs
tells w (x ∷ xs) rs = tells (after w x) xs (call_tells w x rs)

-- THE LAW: the levels behind each step of recorded lines are read as what the calls on a port over them tell, from the opening of its
-- root on, where none of these was a start that was too slow
abbrev pub LevelsTellTheCalls : Type 0
LevelsTellTheCalls =
    (k : Rooted) (bus : Bus NodeState) (steps : List ℕ) (made : AreSteps k bus steps) (p : BitPortView) → ShowsCalls p
    → bus.seen ≡ p.seen → are_quick (opened p) p.log ≡ true
    → (reading (showing both_high [] (levels_along k made.opened made.doings))).read ≡ tells (opened p) p.log []

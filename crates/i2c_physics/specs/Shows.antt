-- What the calls on a port show on the wires of its root, to whom sees nothing but the levels.
use Rattle.std.specs.Prelude.{◌≡◌, Bool, true, false, not, ◌&&◌, List, [], ◌∷◌}
use Rattle.i2c_base.specs.declared.port.PortCall.{PortCall}
use Rattle.i2c_base.specs.declared.port.PortCall.TheVariants as call
use Rattle.i2c_spec.specs.World.{World, opening_world, after, after_all, answer, takes, gives, is_ack, is_slow}
use Rattle.wire_spec.specs.Bus.{Seen, Level, Stopped}
use Rattle.wire_spec.specs.Calls.{byte_seen}
use Rattle.i2c_bits.specs.Showing.{address_byte, begun_seen}
use Rattle.i2c_bits.specs.PortViews.{BitPortView, is_busy, is_late}

-- a call in this world, which is no start that was too slow: a start its address byte and the answer, a byte that is put the answer of the
-- world, one that is read the controller's; a stop (UM10204 sections 3.1.4 to 3.1.6 and 3.1.10)
abbrev pub call_shows : World → PortCall → Seen → Seen
call_shows w (call.Start addr reading) c = byte_seen (address_byte addr reading) (is_ack (answer w addr reading)) (begun_seen w.busy c)
call_shows w (call.Put byte) c = byte_seen byte (takes w byte) c
call_shows w (call.Get ack) c = byte_seen (gives w) ack c
call_shows w call.Stop c = Stopped ∷ Level false ∷ c
call_shows w call.Fault c = c
call_shows w (call.Line m level) c = c

-- and these calls, the first one first
abbrev pub shows : World → List PortCall → Seen → Seen
shows w [] c = c
shows w (x ∷ xs) c = shows (after w x) xs (call_shows w x c)

-- it is a start at which a target holds the clock for too long
abbrev pub is_too_slow : World → PortCall → Bool
is_too_slow w (call.Start addr reading) = is_slow (answer w addr reading)
is_too_slow w (call.Put byte) = false
is_too_slow w (call.Get ack) = false
is_too_slow w call.Stop = false
is_too_slow w call.Fault = false
is_too_slow w (call.Line m level) = false

-- none of these calls is
abbrev pub are_quick : World → List PortCall → Bool
are_quick w [] = true
are_quick w (x ∷ xs) = not (is_too_slow w x) && are_quick (after w x) xs

-- the world of its root as the board was opened
abbrev pub opened : BitPortView → World
opened p = opening_world p.world.board p.world.root

-- its calls lead from there to its world; and where none of them was too slow, they are all that its wires have shown
pub record ShowsCalls (p : BitPortView) : Type 0 where
  pub world : p.world ≡ after_all (opened p) p.log
  pub busy : p.world.busy ≡ is_busy p.phase
  pub late : is_late p.phase ≡ true → are_quick (opened p) p.log ≡ false
  pub seen : are_quick (opened p) p.log ≡ true → p.seen ≡ shows (opened p) p.log []

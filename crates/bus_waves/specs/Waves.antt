-- The waves of a root over a run: the text of the levels that its two wires had, and what these show of the calls on it.
use Rattle.std.specs.Prelude.{◌≡◌, ℕ, true, List, []}
use Rattle.i2c_base.specs.declared.port.PortCall.{PortCall}
use Rattle.i2c_base.specs.Board.{BoardView}
use Rattle.i2c_spec.specs.World.{opening_world}
use Rattle.wire_spec.specs.Bus.{Bus}
use Rattle.wire_spec.specs.Sites.{NodeState}
use Rattle.i2c_bits.specs.Wiring.{Rooted}
use Rattle.i2c_physics.specs.Shows.{are_quick, shows}
use Rattle.bus_waves.specs.Levels.{both_high, levels_along, showing}
use Rattle.bus_waves.specs.Recordings.{AreSteps}
use Rattle.bus_waves.specs.Dumps.{dump_of}
use Rattle.bus_waves.specs.Readings.{reading, tells}

abbrev pub rooted : BoardView → ℕ → Rooted
rooted b root = record { board = b; root = root }

-- the lines of a root went from their opening, step by step, to where the calls of this log left them, and the text is the dump of the
-- levels behind each step. Where no start among the calls was too slow, what is seen on the lines is what the calls show, and the levels are
-- read back as what the calls tell: each start, each byte with the answer to it, and each stop (UM10204 sections 3.1.4 to 3.1.6)
pub record IsWave (b : BoardView) (root : ℕ) (log : List PortCall) (text : List ℕ) : Type 0 where
  pub bus : Bus NodeState
  pub steps : List ℕ
  pub made : AreSteps (rooted b root) bus steps
  pub is_dump : text ≡ dump_of root steps
  pub shown : are_quick (opening_world b root) log ≡ true → bus.seen ≡ shows (opening_world b root) log []
  pub read : are_quick (opening_world b root) log ≡ true
      → (reading (showing both_high [] (levels_along (rooted b root) made.opened made.doings))).read ≡ tells (opening_world b root) log []

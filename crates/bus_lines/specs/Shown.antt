-- What lines have shown, and the two numbers that the program keeps of it.
use Rattle.std.specs.Prelude.{◌≡◌, ℕ, min, [], ◌∷◌}
use Rattle.ports.specs.Causes.{MOST}
use Rattle.wire_spec.specs.Bus.{Seen, Level, Started, Stopped, edges_in, flips_in}
use Rattle.wire_spec.specs.Calls.{byte_seen}
use Rattle.bus_lines.specs.declared.sign_log.SignLog.{SignLog, Nothing, Rise', Byte', Start', Stop'}

-- all of it, the last first
abbrev pub shown_by : SignLog → Seen
shown_by Nothing = []
shown_by (Rise' shape before level) = Level level.value ∷ shown_by before
shown_by (Byte' shape before byte acked) = byte_seen byte.value acked.value (shown_by before)
shown_by (Start' shape before) = Started ∷ shown_by before
shown_by (Stop' shape before) = Stopped ∷ shown_by before

-- how often SCL rose, and how often there was a start or a stop, up to 2^64 - 1
pub record AreCounted (c : Seen) (rises changes : ℕ) : Type 0 where
  pub edges : rises ≡ min (edges_in c) MOST
  pub flips : changes ≡ min (flips_in c) MOST

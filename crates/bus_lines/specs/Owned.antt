-- Which devices of a board are of a root, and a world of which one was taken out.
use Rattle.std.specs.Prelude.{ℕ, ◌==◌, Bool, false, Option, None, slice_get, slice_set, if◌then◌else◌}
use Rattle.std.specs.Option.{option_map_or}
use Rattle.i2c_base.specs.Board.{BoardView, DeviceView}
use Rattle.i2c_spec.specs.Tree.{root_of}
use Rattle.i2c_spec.specs.Targets.{TargetState, Silent}
use Rattle.i2c_spec.specs.World.{World}

-- a device, and device number k, is of this root where its bus hangs from it
abbrev pub is_of : BoardView → ℕ → DeviceView → Bool
is_of b root d = root_of b d.bus == root

abbrev pub is_own : BoardView → ℕ → ℕ → Bool
is_own b root k = option_map_or (is_of b root) (slice_get b.devices k) false

-- device k is of the world's root; the device, where it is
abbrev pub owns : World → ℕ → Bool
owns w k = is_own w.board w.root k

abbrev pub own_device : World → ℕ → Option TargetState
own_device w k = if owns w k then slice_get w.devices k else None

-- a world once device k was taken out of it: one of another root stays
abbrev pub without : World → ℕ → World
without w k = record w { devices = if owns w k then slice_set w.devices k Silent else w.devices }

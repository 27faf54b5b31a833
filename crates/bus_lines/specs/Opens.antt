-- The targets of a root as its board is opened.
use Rattle.std.specs.Prelude.{ℕ, List, [], ◌++◌, map}
use Rattle.i2c_base.specs.declared.board.MuxSpec.{MuxSpec}
use Rattle.i2c_base.specs.Board.{BoardView, DeviceView}
use Rattle.wire_spec.specs.declared.mode.Mode.TheVariants.{Out}
use Rattle.wire_spec.specs.Wires.{Bit}
use Rattle.wire_spec.specs.Roots.{at}
use Rattle.wire_spec.specs.Bus.{rejoined}
use Rattle.wire_spec.specs.Sites.{NodeState, Chip, Device, site_with, chip_site, device_site, mask_of}
use Rattle.bus_lines.specs.LinesViews.{TargetsView, targets_of}

-- the chip of a mux, and a device, out of any message
abbrev pub chip_bit : MuxSpec → Bit NodeState
chip_bit m = at Out (site_with Chip (chip_site m))

abbrev pub device_bit : DeviceView → Bit NodeState
device_bit d = at Out (site_with Device (device_site d))

-- all targets of a board, of which nobody is joined yet
abbrev pub bits_of : BoardView → List (Bit NodeState)
bits_of b = map chip_bit b.muxes ++ map device_bit b.devices

-- the targets of a root as its board is opened
abbrev pub opened_targets : BoardView → ℕ → TargetsView
opened_targets b r =
    targets_of (record { board = b; root = r }) (rejoined (mask_of b r) (bits_of b)) []

-- Worked examples: boards of one root, and what a cut read of each address and rise comes to.
use Rattle.std.specs.Prelude.{ℕ, Bool, false, List, [], ◌∷◌, Some, Result}
use Rattle.i2c_base.specs.declared.board.DeviceKind.{DeviceKind}
use Rattle.i2c_base.specs.declared.board.DeviceKind.TheVariants as kind
use Rattle.i2c_base.specs.declared.board.Idle.TheVariants.{Disconnect}
use Rattle.i2c_base.specs.declared.board.LockMode.TheVariants.{Parent}
use Rattle.i2c_base.specs.declared.board.MuxKind.TheVariants.{Pca9541, Pca9548}
use Rattle.i2c_base.specs.declared.board.MuxSpec.{MuxSpec}
use Rattle.i2c_base.specs.declared.errno.Errno.{Errno}
use Rattle.i2c_base.specs.Board.{BoardView, DeviceView}
use Rattle.i2c_spec.specs.Flat.{block_limit}
use Rattle.i2c_spec.specs.World.{opening_world}
use Rattle.bus_clear.specs.Cuts.{level_at, pulses_of, cleared_world}
use Rattle.bus_clear.specs.Receives.{received, reply_of}

-- a register device at 0x20 that holds its clock for so many looks, with these bytes from register 0 on
abbrev pub holding : ℕ → List ℕ → BoardView
holding looks bytes = record {
  version = 1;
  roots = (record { smbus_only = false }) ∷ [];
  muxes = [];
  devices = (record { bus = 0; addr = 0x20; bound = false; kind = kind.Regs looks; set = (record { start = 0; bytes = bytes }) ∷ [] }) ∷ [];
}

abbrev pub device : List ℕ → BoardView
device bytes = holding 0 bytes

-- what is told: whether SDA is high after the cut, the pulses, and the read after them
pub record Row : Type 0 where
  pub high : Bool
  pub pulses : ℕ
  pub read : Result ℕ Errno

abbrev pub told : Bool → ℕ → Result ℕ Errno → Row
told high pulses read = record { high = high; pulses = pulses; read = read }

abbrev pub row_on : BoardView → ℕ → ℕ → ℕ → Row
row_on b root addr cut =
    told (level_at (opening_world b root) addr cut) (pulses_of (opening_world b root) addr cut)
    (reply_of (received (block_limit b) (cleared_world (opening_world b root) addr cut) addr))

abbrev pub row : BoardView → ℕ → ℕ → Row
row b addr cut = row_on b 0 addr cut

-- two roots, with these muxes and devices; a device of some kind, and a switch on the first root
abbrev pub two_roots : List MuxSpec → List DeviceView → BoardView
two_roots muxes devices =
    record { version = 1; roots = record { smbus_only = false } ∷ record { smbus_only = false } ∷ []; muxes = muxes; devices = devices }

abbrev pub device_on : ℕ → DeviceKind → ℕ → List ℕ → DeviceView
device_on bus k addr bytes =
    record { bus = bus; addr = addr; bound = false; kind = k; set = record { start = 0; bytes = bytes } ∷ [] }

abbrev pub switch : MuxSpec
switch =
    record { bus = 0; kind = Pca9548; addr = Some 0x70; channels = 8; lock = Parent; absent = false; foreign = 0; idle = Disconnect }

-- an arbitrator that the other controller has for so many reads
abbrev pub arbitrator : ℕ → MuxSpec
arbitrator foreign =
    record { bus = 0; kind = Pca9541; addr = Some 0x72; channels = 1; lock = Parent; absent = false; foreign = foreign; idle = Disconnect }

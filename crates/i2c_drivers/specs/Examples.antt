-- Worked examples: a board with two buses, and reads and writes of EEPROMs.
use Rattle.std.specs.Prelude.{ℕ, Bool, true, false, [], ◌∷◌, None}
use Rattle.i2c_base.specs.Board.{BoardView, DeviceView}
use Rattle.i2c_base.specs.declared.board.DeviceKind.{DeviceKind}
use Rattle.i2c_base.specs.declared.board.DeviceKind.TheVariants as kind
use Rattle.i2c_base.specs.declared.board.Idle.TheVariants.{Disconnect}
use Rattle.i2c_base.specs.declared.board.LockMode.TheVariants.{Parent}
use Rattle.i2c_base.specs.declared.board.MuxKind.TheVariants.{Gpio}
use Rattle.i2c_base.specs.declared.board.MuxSpec.{MuxSpec}
use Rattle.i2c_base.specs.declared.board.Size.TheVariants.{C02, C256}
use Rattle.tools.specs.Dialogues.{Dialogue}
use Rattle.i2c_drivers.specs.At24.{page_reads, page_writes}

abbrev pub device : (bus addr : ℕ) → (bound : Bool) → DeviceKind → DeviceView
device bus addr bound what = record { bus = bus; addr = addr; bound = bound; kind = what; set = [] }

abbrev pub mux : MuxSpec
mux = record { bus = 0; kind = Gpio; addr = None; channels = 1; lock = Parent; absent = false; foreign = 0; idle = Disconnect }

-- on the root two EEPROMs, of which the second is not bound, and a sensor; behind a mux, on bus 1, a sensor and one that is not bound
abbrev pub two_buses : BoardView
two_buses =
    record {
      version = 1;
      roots = (record { smbus_only = false }) ∷ [];
      muxes = mux ∷ [];
      devices = device 0 0x50 true (kind.Eeprom C02 0xff 0 false) ∷ device 0 0x51 false (kind.Eeprom C02 0xff 0 false)
          ∷ device 1 0x49 true (kind.Lm75 0xff80) ∷ device 0 0x48 true (kind.Lm75 0x1900)
          ∷ device 1 0x4a false (kind.Lm75 0) ∷ [];
    }

-- nine bytes from place 4 on of a 24C02, whose pages have 8
abbrev pub nine_bytes : Dialogue
nine_bytes =
    page_writes (record {
      of = record { bus = 0; addr = 0x50; size = C02 };
      offset = 4;
      bytes = 1 ∷ 2 ∷ 3 ∷ 4 ∷ 5 ∷ 6 ∷ 7 ∷ 8 ∷ 9 ∷ [];
    })

-- three bytes from place 62 on of a 24C256, whose pages have 64
abbrev pub three_bytes : Dialogue
three_bytes =
    page_writes (record { of = record { bus = 0; addr = 0x50; size = C256 }; offset = 62; bytes = 7 ∷ 8 ∷ 9 ∷ [] })

-- so many bytes of a 24C256
abbrev pub read_of : (count : ℕ) → Dialogue
read_of count = page_reads (record { of = record { bus = 0; addr = 0x50; size = C256 }; offset = 1000; count = count })

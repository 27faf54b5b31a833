-- Worked examples: a board of one bus, and what stands under numbers on it.
use Rattle.std.specs.Prelude.{ℕ, Bool, true, false, [], ◌∷◌, Some, None}
use Rattle.slab.specs.Slab.{Slab}
use Rattle.i2c_base.specs.Board.{BoardView, DeviceView}
use Rattle.i2c_base.specs.declared.board.DeviceKind.TheVariants.{Regs}
use Rattle.dev_handle.specs.Handles.{HandlesView, fresh}
use Rattle.dev_handle.specs.declared.handle.OpenHandle.{OpenHandle}
use Rattle.dev_handle.specs.declared.stored.Numbered.{Numbered}

abbrev pub device : (addr : ℕ) → (bound : Bool) → DeviceView
device addr bound = record { bus = 0; addr = addr; bound = bound; kind = Regs 0; set = [] }

-- on its bus a device that scripts may reach, at 0x20, and one that a driver is bound to, at 0x48
abbrev pub one_bus : BoardView
one_bus =
    record {
      version = 1;
      roots = (record { smbus_only = false }) ∷ [];
      muxes = [];
      devices = device 0x20 false ∷ device 0x48 true ∷ [];
    }

-- a handle is open under number 0, the only one
abbrev pub only : OpenHandle → HandlesView
only h = Some h ∷ []

-- a handle whose address was set, by force or without it
abbrev pub at : (addr : ℕ) → (force : Bool) → OpenHandle
at addr force = record (fresh 0) { addr = Some addr; force = force }

-- number 0 was given out, and closed
abbrev pub closed : HandlesView
closed = None ∷ []

-- the only key is that of number 1 now; number 0, which was closed, had it before
abbrev pub key_given_again : Slab Numbered
key_given_again = record { slots = Some (record { number = 1; handle = fresh 0 }) ∷ []; vacant_key = 1; capacity = 4 }

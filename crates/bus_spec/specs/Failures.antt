-- Which calls of the ports failed, told by the logs that a journal tells: by their root, and their number on it, from 0.
use Rattle.std.specs.Prelude.{◌≡◌, ◌<◌, ◌↔◌, ℕ, List, Some, length, slice_get}
use Rattle.i2c_base.specs.declared.port.PortCall.TheVariants as call
use Rattle.i2c_base.specs.declared.entry.Entry.{Entry}
use Rattle.i2c_base.specs.Board.{BoardView}
use Rattle.i2c_spec.specs.History.{Asks}
use Rattle.bus_spec.specs.Past.{calls_of}

-- the call of this number on the port of a root failed
abbrev pub HasFailed : BoardView → Asks → List Entry → ℕ → ℕ → Type 0
HasFailed b asks past r n = slice_get (calls_of b asks past r) n ≡ Some call.Fault

-- it was made
abbrev pub HasMade : BoardView → Asks → List Entry → ℕ → ℕ → Type 0
HasMade b asks past r n = n < length (calls_of b asks past r)

-- of the calls that were made in both of two journals the same failed
abbrev pub FailAlike : BoardView → Asks → List Entry → List Entry → Type 0
FailAlike b asks past other =
    (r n : ℕ) → HasMade b asks past r n → HasMade b asks other r n → HasFailed b asks past r n ↔ HasFailed b asks other r n

-- When a caller is through.
use Rattle.std.specs.Prelude.{◌≡◌, ℕ, None}
use Rattle.i2c_spec.specs.History.{Asks}
use Rattle.bus_spec.specs.Walk.{Ends}
use Rattle.bus_spec.specs.Past.{Now}

-- a caller's walk has ended, and it asks for nothing more
abbrev pub IsDone : Asks → Now → ℕ → Type 0
IsDone asks n c = (n.walk c ≡ Ends) × (asks c (n.settled c) ≡ None)

-- The roots of the buses that a script's transfers name.
use Rattle.std.specs.Prelude.{◌≡◌, ℕ, ◌==◌, nat_lt, Bool, ◌&&◌, List, if◌then◌else◌}
use Rattle.std.specs.List.{list_any}
use Rattle.std.specs.Int.{bit_at}
use Rattle.i2c_base.specs.Board.{BoardView}
use Rattle.i2c_base.specs.Transfer.{TransferView}
use Rattle.i2c_spec.specs.Tree.{buses, root_of}
use Rattle.tools.specs.Dialogues.{transfers_of}
use Rattle.caller_core.specs.Turns.{command_talk}
use Rattle.caller_core.specs.View.{CommandView}

-- the transfer's bus hangs from root r; a bus that the board lacks names no root
abbrev pub names_root : BoardView → ℕ → TransferView → Bool
names_root b r t = nat_lt t.bus (buses b) && (root_of b t.bus == r)

-- this command asks for such a transfer
abbrev pub command_names : BoardView → ℕ → CommandView → Bool
command_names b r c = list_any (names_root b r) (transfers_of (command_talk c))

-- a number that has a bit for exactly those r that some x passes the test of
pub record HasBits {X : Type 0} (test : ℕ → X → Bool) (xs : List X) (bits : ℕ) : Type 0 where
  pub exactly : (r : ℕ) → bit_at bits r ≡ (if list_any (test r) xs then 1 else 0)

-- .. for exactly the roots that these commands name
abbrev pub HasRoots : BoardView → List CommandView → ℕ → Type 0
HasRoots b cs bits = HasBits (command_names b) cs bits

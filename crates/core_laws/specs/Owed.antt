-- What a seat owes the journal and the logs.
use Rattle.std.specs.Prelude.{ℕ, ◌+◌, ◌≤◌, Bool, List, if◌then◌else◌}
use Rattle.std.specs.List.{sum_by}
use Rattle.i2c_base.specs.Board.{BoardView}
use Rattle.i2c_spec.specs.Flat.{block_limit}
use Rattle.bus_spec.specs.Walk.{Job, WalkTree, message_of}
use Rattle.bus_laws.specs.Costs.{IsWithin}
use Rattle.i2c_spec.specs.Messages.{bytes_most}

-- the walk under way, its settle, and what is left to ask for behind it
pub record OwesUpTo (b : BoardView) (w : WalkTree) (unsettled : Bool) (behind n : ℕ) : Type 0 where
  pub ahead : ℕ
  pub within : IsWithin b w ahead
  pub most : ahead + (if unsettled then 1 else 0) + behind ≤ n

-- what all owe together
abbrev pub total : List ℕ → ℕ
total ns = sum_by (λ n. n) ns

-- the bytes that a message of a job moves at most, so many more of which may follow
abbrev pub message_most : BoardView → Job → ℕ → ℕ
message_most b job left = bytes_most (block_limit b) (message_of b job left)

-- What every caller keeps, whatever it asks for.
use Rattle.std.specs.Prelude.{◌≡◌, ℕ, ◌+◌, ◌<◌, ◌≤◌, List, [], ◌∷◌, ◌++◌, length, Option, Some}
use Rattle.i2c_base.specs.declared.reply.Reply.{Reply}
use Rattle.i2c_base.specs.Board.{BoardView}
use Rattle.i2c_base.specs.Fitting.{Fits}
use Rattle.i2c_base.specs.Transfer.{TransferView, IsTransfer}
use Rattle.i2c_spec.specs.Cost.{cost_of}

-- whatever a caller is opened with: each transfer has a message and is within the limits; what is left covers its cost, and falls by it
pub record IsFairCaller {S : Type 0} (asked : S → List Reply → Option TransferView) (left : S → List Reply → ℕ) (board : S
    → BoardView) : Type 0 where
  pub sends : (s : S) (rs : List Reply) (t : TransferView) → asked s rs ≡ Some t → 0 < length t.msgs
  pub limits : (s : S) (rs : List Reply) (t : TransferView) → asked s rs ≡ Some t → IsTransfer t.msgs t.out
  pub costs : (s : S) (rs : List Reply) (t : TransferView) → asked s rs ≡ Some t → 1 ≤ cost_of (board s) t
  pub falls : (s : S) (rs : List Reply) (t : TransferView) (r : Reply) → asked s rs ≡ Some t → Fits t r
      → left s (rs ++ r ∷ []) + cost_of (board s) t ≤ left s rs

-- What holds of each item holds of each where one more of its kind is put at a place.
use Rattle.i2c_board.proofs.Cited.{ℕ, List}
use Rattle.std.proofs.Common.{set}
use Rattle.std.specs.Prelude.{All}
use Rattle.std.proofs.lemmas.List.Elements.{All-set}

pub all_set : {X : Type 0} (P : X → Type 0) (xs : List X) (i : ℕ) (a : X) → P a → All P xs → All P (set xs i a)
all_set P xs i a p ps = All-set P xs i a p ps

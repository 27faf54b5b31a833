use Rattle.journal_laws.proofs.Cited.{◌≡◌, ℕ, Option, Some, None, refl}
use Rattle.journal_laws.proofs.wrong.a_lock_is_taken_by_one_caller.Goals as goal

taken_once : (o : Option ℕ) → o ≡ Some 0 → o ≡ None → ⊥
taken_once o some none = cc

pub returns : goal.returns
returns c = λ callers asks legal. taken_once (Some 0) refl legal.locks.0.0

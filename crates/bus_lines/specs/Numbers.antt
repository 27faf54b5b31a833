-- Numbers of some targets of a root.
use Rattle.std.specs.Prelude.{◌≡◌, ℕ, ◌<◌, Bool, true, List, [], ◌∷◌, ◌++◌, cond}
use Rattle.std.specs.List.{list_any, IsDistinct}
use Rattle.std.specs.Prelude.{◌==◌}

abbrev pub is_among : List ℕ → ℕ → Bool
is_among ns k = list_any (λ n. k == n) ns

-- with one number more, where it isn't among them yet
abbrev pub added : ℕ → List ℕ → List ℕ
added k ns = cond (is_among ns k) ns (ns ++ k ∷ [])

-- with each of these
abbrev pub all_added : List ℕ → List ℕ → List ℕ
all_added [] ns = ns
all_added (m ∷ ms) ns = all_added ms (added m ns)

-- numbers below so many, each of them once
pub record AreNumbers (room : ℕ) (ns : List ℕ) : Type 0 where
  pub apart : IsDistinct (λ k n. k == n) ns
  pub below : (k : ℕ) → is_among ns k ≡ true → k < room

-- numbers below so many
pub record NumbersView : Type 0 where
  pub room : ℕ
  pub items : List ℕ

abbrev pub numbers_of : ℕ → List ℕ → NumbersView
numbers_of room ns = record { room = room; items = ns }

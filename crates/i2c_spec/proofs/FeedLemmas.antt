-- Targets see only the events of their own numbers.
use Rattle.std.proofs.Common.{◌≡◌, ℕ, ◌+◌, ◌<◌, ◌≤◌, List, [], ◌∷◌, length, Option, refl, ap, ◌∙◌, arith}
use Rattle.i2c_base.specs.declared.event.Event.{Event}
use Rattle.i2c_base.specs.Table.{Table}
use Rattle.i2c_spec.specs.World.{feed, given}

pub feed-same : {X : Type 0} (t : Table X) (f g : ℕ → Option Event) (k : ℕ) (xs : List X)
    → ((j : ℕ) → k ≤ j → j < k + length xs → g j ≡ f j) → feed t g k xs ≡ feed t f k xs
feed-same t f g k [] same = refl
feed-same t f g k (x ∷ xs) same =
    ap (λ o. given t o x ∷ feed t g (k + 1) xs) (same k (omega arith) (omega arith))
    ∙ ap (λ rest. given t (f k) x ∷ rest) (feed-same t f g (k + 1) xs (λ j low high. same j (omega arith) (omega arith)))

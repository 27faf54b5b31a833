-- Draws that come one behind another.
use Rattle.std.proofs.Common.{◌≡◌, ℕ, suc, ◌+◌, ◌++◌, [], ◌∷◌, map, refl, sym, ◌∙◌, ap, subst, arith}
use Rattle.std.specs.List.{range_with_len}
use Rattle.std.proofs.lemmas.List.FromFn.{map-range_with_len_more}
use Rattle.i2c_gen.specs.Draws.{behind, drawn, number_behind, draw}

-- the number behind one more draw
pub number_behind_next : (seed n x : ℕ) → x ≡ number_behind seed n → behind x ≡ number_behind seed (n + 1)
number_behind_next seed n x e =
    subst (λ (k : ℕ). behind x ≡ number_behind seed k) (let e : suc n ≡ n + 1 = omega arith in e) (ap behind e)

-- the draw that it leads to
pub drawn_next : (seed n x many : ℕ) → x ≡ number_behind seed n → drawn (behind x) many ≡ draw seed n many
drawn_next seed n x many e = ap (λ (y : ℕ). drawn (behind y) many) e

-- one draw more from the first on
pub draws_more : (seed first n x many word : ℕ) → x ≡ number_behind seed (first + n) → word ≡ drawn (behind x) many
    → map (λ k. draw seed k many) (range_with_len first (n + 1)) ≡ map (λ k. draw seed k many) (range_with_len first n) ++ word ∷ []
draws_more seed first n x many word e is =
    map-range_with_len_more (λ k. draw seed k many) first n (first + n) refl
    ∙ ap (λ (w : ℕ). map (λ k. draw seed k many) (range_with_len first n) ++ w ∷ []) (sym (is ∙ drawn_next seed (first + n) x many e))

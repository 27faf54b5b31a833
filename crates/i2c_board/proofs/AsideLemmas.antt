-- The short ways of the searches in a grant: where nothing is aside of a bus, and where one search does for two places. The
-- inductions go over hops, over muxes, and over the items of a search.
use Rattle.i2c_board.proofs.Cited.{◌≡◌, ℕ, nat_le, Bool, true, false, not, cond, ◌&&◌, ◌||◌, List, [], ◌∷◌, length, reverse, refl, sym, ap}
use Rattle.i2c_board.proofs.Cited.{◌∙◌, list_any, MuxSpec, BoardView, Hop, hops, hops_of, hop_at, buses_of, put_if, root_of, is_staying}
use Rattle.i2c_board.proofs.Cited.{stays_in, crosses_mux, is_kept_hop, is_aside}
use Rattle.std.proofs.Common.{eqb}
use Rattle.std.proofs.Math.Bool.{and-false}
use Rattle.std.proofs.lemmas.Bool.{or_parts}
use Rattle.std.proofs.lemmas.List.Sorted.{list_any-IsPermutation, IsPermutation-reverse}

pub unkept_aside : (b : BoardView) (s u : ℕ) → list_any (is_kept_hop b s) (hops b u) ≡ false → is_aside b s u ≡ false
unkept_aside b s u none = ap (λ (t : Bool). eqb (root_of b u) (root_of b s) && t) none ∙ and-false (eqb (root_of b u) (root_of b s))

-- where no mux stays as it is, no hop does
still : (roots : ℕ) (test : Hop → Bool) (ms : List MuxSpec) (s : ℕ) → stays_in ms ≡ false
    → list_any (λ h. h.stays && test h) (hops_of roots ms s) ≡ false
still roots test [] s none = refl
still roots test (m ∷ before) s none =
    let parts = or_parts (is_staying m.idle) (stays_in before) none in
    elim (nat_le (buses_of roots before) s)
    as (λ t. list_any (λ h. h.stays && test h) (put_if t (hop_at roots before m s) (hops_of roots before (cond t m.bus s))) ≡ false) [
      | true ↦
          ap (λ (t : Bool). (t && test (hop_at roots before m s)) || list_any (λ h. h.stays && test h) (hops_of roots before m.bus)) parts.0
          ∙ still roots test before m.bus parts.1
      | false ↦ still roots test before s parts.1
    ]

pub none_aside : (b : BoardView) → stays_in b.muxes ≡ false → (s u : ℕ) → is_aside b s u ≡ false
none_aside b none s u =
    unkept_aside b s u (still (length b.roots) (λ h. not (crosses_mux h.mux (hops b s))) (reverse b.muxes) u
    (sym (list_any-IsPermutation (λ (m : MuxSpec). is_staying m.idle) b.muxes (reverse b.muxes) (IsPermutation-reverse b.muxes)) ∙ none))

-- one search for either of two places
pub any_either : {X : Type 0} (test on other : X → Bool) (xs : List X)
    → list_any (λ x. test x && (on x || other x)) xs ≡ (list_any (λ x. test x && on x) xs || list_any (λ x. test x && other x) xs)
any_either test on other [] = refl
any_either test on other (x ∷ xs) =
    ap (λ (t : Bool). (test x && (on x || other x)) || t) (any_either test on other xs)
    ∙ by (test x) (on x) (other x) (list_any (λ y. test y && on y) xs) (list_any (λ y. test y && other y) xs)
  where
    by : (t p q a c : Bool) → ((t && (p || q)) || (a || c)) ≡ ((t && p) || a) || ((t && q) || c)
    by false p q a c = refl
    by true true q a c = refl
    by true false true true c = refl
    by true false true false c = refl
    by true false false a c = refl

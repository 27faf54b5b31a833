-- The hops over a bus, found by going over the muxes from the last one of the board back: a mux is crossed where
-- its channels begin at or before the bus, and passed where they begin after it.
use Rattle.std.proofs.Common.{◌≡◌, ℕ, suc, slice_get, Some, ◌+◌, ◌-◌, ◌<◌, ◌≤◌, nat_le, true, false, cond, List, [], ◌∷◌, ◌++◌, length}
use Rattle.std.proofs.Common.{reverse, take, get_or, sym, ap, ◌∙◌, arith, rules}
use Rattle.std.specs.List.{All}
use Rattle.std.proofs.lemmas.List.{take_more, reverse-append, length-reverse}
use Rattle.std.proofs.lemmas.List.Sums.{sum_by-cons, sum_by_push}
use Rattle.std.proofs.lemmas.List.Sorted.{sum_by-IsPermutation, IsPermutation-reverse}
use Rattle.std.proofs.lemmas.List.Elements.{All-nil, All-cons, All-weaker}
use Rattle.std.proofs.lemmas.Option.{same_Some}
use Rattle.std.proofs.lemmas.Bool.Decides.{nat_tests}
use Rattle.i2c_base.specs.declared.board.MuxSpec.{MuxSpec}
use Rattle.i2c_base.specs.Board.{BoardView}
use Rattle.i2c_spec.specs.Tree.{Hop, hops, end_of, buses_of, hop_at, hops_of, put_if}

-- the first n elements, gone over from the last one back
pub reverse_back : {X : Type 0} → (xs : List X) (n : ℕ) (d : X) → 0 < n → n ≤ length xs
    → reverse (take n xs) ≡ get_or xs (n - 1) d ∷ reverse (take (n - 1) xs)
reverse_back xs n d some within =
    let e : n ≡ (n - 1) + 1 = omega arith in
    ap (λ k. reverse (take k xs)) e ∙ ap reverse (take_more xs (n - 1) d (omega arith))
    ∙ reverse-append (take (n - 1) xs) (get_or xs (n - 1) d ∷ [])

pub buses_of-cons : (roots : ℕ) (m : MuxSpec) (before : List MuxSpec)
    → buses_of roots (m ∷ before) ≡ buses_of roots before + m.channels
buses_of-cons roots m before = omega (arith, sum_by-cons (λ (x : MuxSpec). x.channels) m before)

pub buses_of-push : (roots : ℕ) (ms : List MuxSpec) (m : MuxSpec) → buses_of roots (ms ++ m ∷ []) ≡ buses_of roots ms + m.channels
buses_of-push roots ms m = omega (arith, sum_by_push (λ (x : MuxSpec). x.channels) ms m)

pub buses_of-reverse : (roots : ℕ) (ms : List MuxSpec) → buses_of roots (reverse ms) ≡ buses_of roots ms
buses_of-reverse roots ms =
    omega (arith, sum_by-IsPermutation (λ (x : MuxSpec). x.channels) ms (reverse ms) (IsPermutation-reverse ms))

pub hops_of-cross : (roots : ℕ) (m : MuxSpec) (before : List MuxSpec) (s : ℕ) → buses_of roots before ≤ s
    → hops_of roots (m ∷ before) s ≡ hop_at roots before m s ∷ hops_of roots before m.bus
hops_of-cross roots m before s h =
    let e : nat_le (buses_of roots before) s ≡ true = search (rules, nat_tests) in rw e

pub hops_of-pass : (roots : ℕ) (m : MuxSpec) (before : List MuxSpec) (s : ℕ) → s < buses_of roots before
    → hops_of roots (m ∷ before) s ≡ hops_of roots before s
hops_of-pass roots m before s h =
    let e : nat_le (buses_of roots before) s ≡ false = search (rules, nat_tests) in rw e

-- the bus at the end of hops is the one that the last of them stands on
pub end_of_last : (s : ℕ) (hs : List Hop) (h : Hop) → slice_get hs (length hs - 1) ≡ Some h → end_of s hs ≡ h.on
end_of_last s [] h e = cc
end_of_last s (x ∷ []) h e = ap (λ (g : Hop). g.on) (same_Some x h e)
end_of_last s (x ∷ y ∷ rest) h e =
    let n : length (x ∷ y ∷ rest) - 1 ≡ suc (length (y ∷ rest) - 1) = omega arith in
    end_of_last x.on (y ∷ rest) h (ap (λ k. slice_get (x ∷ y ∷ rest) k) (sym n) ∙ e)

-- each hop crosses a mux of the list
IsWithin : ℕ → Hop → Type 0
IsWithin n h = h.mux < n

IsWithin_more : (n : ℕ) (h : Hop) → IsWithin n h → IsWithin (suc n) h
unfolding IsWithin
IsWithin_more n h lt = omega arith

IsWithin_last : (roots : ℕ) (m : MuxSpec) (before : List MuxSpec) (s : ℕ) → IsWithin (suc (length before)) (hop_at roots before m s)
unfolding IsWithin
IsWithin_last roots m before s = omega arith

hops_of_within : (roots : ℕ) (ms : List MuxSpec) (s : ℕ) → All (IsWithin (length ms)) (hops_of roots ms s)
hops_of_within roots [] s = All-nil (IsWithin 0)
hops_of_within roots (m ∷ before) s =
    let n = length before in
    let weaker = λ (t : ℕ). All-weaker (IsWithin n) (IsWithin (suc n)) (IsWithin_more n) (hops_of roots before t)
    (hops_of_within roots before t) in
    elim (nat_le (buses_of roots before) s)
    as (λ t. All (IsWithin (suc n)) (put_if t (hop_at roots before m s) (hops_of roots before (cond t m.bus s)))) [
      | true ↦ All-cons (IsWithin (suc n)) _ _ (IsWithin_last roots m before s) (weaker m.bus)
      | false ↦ weaker s
    ]

pub hops_within : (b : BoardView) (s : ℕ) → All (λ h. h.mux < length b.muxes) (hops b s)
unfolding IsWithin
hops_within b s =
    rw (← length-reverse b.muxes) (hops_of_within (length b.roots) (reverse b.muxes) s)

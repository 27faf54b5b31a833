-- The refusal of a board from what a search found, a lemma for each rule; and the last mux of a list that is
-- filtered from its front. No induction of its own.
use Rattle.i2c_board.proofs.Cited.{◌≡◌, ℕ, ◌+◌, ◌-◌, ◌<◌, Bool, true, false, cond, not, List, [], ◌∷◌, ◌++◌, length, reverse, take, get_or}
use Rattle.i2c_board.proofs.Cited.{Some, is_some, slice_get, refl, sym, ap, ◌∙◌, arith, rules, filter, below_more, reverse-append}
use Rattle.i2c_board.proofs.Cited.{length-reverse, slice_get-get_or, same_Some, none-some, nat_tests, BoardView, DeviceView, Hop, hops}
use Rattle.i2c_board.proofs.Cited.{is_parent, last_mux, locked_over, item_at, home_at, addr_at, items, clashes, NoPair, NoneOf, IsFirstOne}
use Rattle.i2c_board.proofs.Cited.{is_too_deep, is_locked_under, TellsBroken, NoneAfter}
use Rattle.std.proofs.Common.{nat_lt, option_map}
use Rattle.std.specs.List.{All}
use Rattle.std.proofs.lemmas.List.{append-nil, get_or-reverse}
use Rattle.std.proofs.lemmas.List.Elements.{filter_more, All-nil, All-filter, All-get_or}
use Rattle.i2c_base.specs.declared.rules.Item.TheVariants as item
use Rattle.i2c_spec.specs.Tree.{of_mux}
use Rattle.i2c_spec.proofs.HopLemmas.{hops_within}

last_mux_push : (hs : List Hop) (h : Hop) → last_mux (hs ++ h ∷ []) ≡ Some h.mux
last_mux_push hs h = rw reverse-append refl

-- a hop that passes is the last so far
pub last_mux_more_yes : (p : Hop → Bool) (hs : List Hop) (i : ℕ) (d : Hop) → i < length hs → p (get_or hs i d) ≡ true
    → last_mux (filter p (take (i + 1) hs)) ≡ Some (get_or hs i d).mux
last_mux_more_yes p hs i d h yes' =
    ap last_mux (filter_more p hs i d h ∙ ap (λ b. filter p (take i hs) ++ cond b (get_or hs i d ∷ []) []) yes')
    ∙ last_mux_push (filter p (take i hs)) (get_or hs i d)

-- a hop that fails changes nothing
pub last_mux_more_no : (p : Hop → Bool) (hs : List Hop) (i : ℕ) (d : Hop) → i < length hs → p (get_or hs i d) ≡ false
    → last_mux (filter p (take (i + 1) hs)) ≡ last_mux (filter p (take i hs))
last_mux_more_no p hs i d h no' =
    ap last_mux (filter_more p hs i d h ∙ ap (λ b. filter p (take i hs) ++ cond b (get_or hs i d ∷ []) []) no' ∙ append-nil _)

-- there is a last mux where there is a hop
pub is_some_last_mux : (hs : List Hop) → is_some (last_mux hs) ≡ nat_lt 0 (length hs)
is_some_last_mux [] = refl
is_some_last_mux (h ∷ hs) =
    let long : 0 < length (reverse (h ∷ hs)) = omega (arith, length-reverse (h ∷ hs)) in
    let first = slice_get-get_or (reverse (h ∷ hs)) 0 h long in
    let test : nat_lt 0 (length (h ∷ hs)) ≡ true = search (rules, nat_tests) in
    ap (λ o. is_some (option_map (λ (g : Hop). g.mux) o)) first ∙ sym test

-- the last mux is one of the board where all of them are
pub last_mux_within : (n : ℕ) (hs : List Hop) (i : ℕ) → All (λ h. h.mux < n) hs → last_mux hs ≡ Some i → i < n
last_mux_within n [] i all e = absurd (none-some i e)
last_mux_within n (h ∷ hs) i all e =
    let xs = h ∷ hs in
    let long : 0 < length (reverse xs) = omega (arith, length-reverse xs) in
    let last = get_or xs (length xs - 1 - 0) h in
    let first : slice_get (reverse xs) 0 ≡ Some last = slice_get-get_or (reverse xs) 0 h long
    ∙ ap Some (get_or-reverse xs 0 h (omega arith)) in
    let same : last.mux ≡ i = same_Some last.mux i (sym (ap (λ o. option_map (λ (g : Hop). g.mux) o) first) ∙ e) in
    let below : last.mux < n = All-get_or (λ (g : Hop). g.mux < n) xs (length xs - 1 - 0) h (omega arith) all in
    omega arith

-- no later item up to the next one
pub NoneAfter_more : (test : ℕ → Bool) (i n : ℕ) → NoneAfter test i n → test n ≡ false → NoneAfter test i (n + 1)
NoneAfter_more test i n none here l after within =
    below_more (λ k. i < k → test k ≡ false) n (λ k h a. none k a h) (λ _. here) l within after

item_at_mux : (b : BoardView) (i : ℕ) → i < length b.muxes → item_at b i ≡ item.Mux i
item_at_mux b i h = let e : nat_lt i (length b.muxes) ≡ true = search (rules, nat_tests) in rw e

-- a device stands behind the muxes
pub device_item : (b : BoardView) (d : ℕ) (x : DeviceView) → slice_get b.devices d ≡ Some x
    → (addr_at b (length b.muxes + d) ≡ Some x.addr) × (home_at b (length b.muxes + d) ≡ x.bus)
device_item b d x here =
    let past : nat_lt (length b.muxes + d) (length b.muxes) ≡ false = search (rules, nat_tests) in
    let back : length b.muxes + d - length b.muxes ≡ d = omega arith in (
      rw (past, back, here) refl,
      rw (past, back, here) refl,
    )

locked_over_within : (b : BoardView) (j : ℕ) → All (λ h. h.mux < length b.muxes) (locked_over b j)
locked_over_within b j =
    let n = length b.muxes in
    elim (of_mux (λ x. is_parent x.lock) false b j)
    as (λ t. All (λ h. h.mux < n) (cond t (filter (λ h. not h.parent) (hops b (of_mux (λ x. x.bus) 0 b j))) [])) [
      | true ↦ All-filter (λ (h : Hop). not h.parent) (λ h. h.mux < n) _ (hops_within b (of_mux (λ x. x.bus) 0 b j))
      | false ↦ All-nil (λ (h : Hop). h.mux < n)
    ]

-- rule 3 is the first that is broken: mux j is the first parent-locked one with a mux-locked one over it
pub TellsBroken_third : (b : BoardView) (i j : ℕ)
    → NoPair (clashes b) (items b) → NoneOf (is_too_deep b) (length b.muxes) → IsFirstOne (is_locked_under b) (length b.muxes) j
    → last_mux (locked_over b j) ≡ Some i → TellsBroken b (record { rule = 3; first = item.Mux i; second = item.Mux j })
TellsBroken_third b i j addresses depths one found =
    let below = last_mux_within (length b.muxes) (locked_over b j) i (locked_over_within b j) found in (
      i,
      j,
      sym (item_at_mux b i below),
      sym (item_at_mux b j one.within),
      record {
        known = (omega arith, omega arith);
        first = λ e. absurd (omega arith);
        second = λ e. absurd (omega arith);
        third = λ _. (one, found);
        fourth = λ e. absurd (omega arith);
        fifth = λ e. absurd (omega arith);
        addresses_hold = λ _. addresses;
        depths_hold = λ _. depths;
        locks_hold = λ e. absurd (omega arith);
        parents_hold = λ e. absurd (omega arith);
      },
    )

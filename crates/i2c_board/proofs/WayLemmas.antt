-- The tree as a board keeps it: the hop over each bus, and the way up from bus to bus. The inductions go over the muxes
-- from the last one of the board back, and over the channels of a mux.
use Rattle.i2c_board.proofs.Cited.{◌≡◌, ℕ, zero, suc, ◌+◌, ◌-◌, ◌<◌, ◌≤◌, nat_le, true, false, cond, List, [], ◌∷◌, ◌++◌, length, reverse}
use Rattle.i2c_board.proofs.Cited.{take, get_or, Option, Some, None, slice_get, inl, refl, sym, ap, ◌∙◌, arith, take_more, reverse-append}
use Rattle.i2c_board.proofs.Cited.{length-reverse, length-append, length-take-le, same_Some, none-some, slice_get-get_or, MuxSpec}
use Rattle.i2c_board.proofs.Cited.{BoardView, channel_hops, hops_by_bus, Hop, hops, over, buses, buses_of, hop_at, hops_of, put_if}
use Rattle.i2c_board.proofs.Cited.{is_below, is_parent, is_staying, IsPlainBoard, tree_root_hops}
use Rattle.std.proofs.Common.{IfSome, inr}
use Rattle.std.proofs.lemmas.Bool.{cases_lt}
use Rattle.std.proofs.lemmas.List.{length-take, take_all}
use Rattle.std.proofs.lemmas.Option.{slice_get_within}
use Rattle.i2c_board.specs.Passes.{channel_hop}
use Rattle.i2c_spec.proofs.HopLemmas.{reverse_back, buses_of-cons, buses_of-reverse, hops_of-cross, hops_of-pass}
use Rattle.i2c_spec.proofs.TreeLemmas.{tree_leads, tree_tail, tree_above}
use Rattle.i2c_base.proofs.ListLemmas.{get_front, get_back}

length-channel_hops : (first k : ℕ) (m : MuxSpec) (n : ℕ) → length (channel_hops first k m n) ≡ n
length-channel_hops first k m zero = refl
length-channel_hops first k m (suc n) =
    omega (arith, length-append (channel_hops first k m n) (channel_hop first k m n ∷ []), length-channel_hops first k m n)

-- a hop for each bus behind the roots
pub length-hops_by_bus : (roots : ℕ) (ms : List MuxSpec) → roots + length (hops_by_bus roots ms) ≡ buses_of roots ms
length-hops_by_bus roots [] = omega arith
length-hops_by_bus roots (m ∷ before) =
    omega (
      arith,
      length-append (hops_by_bus roots before) (channel_hops (buses_of roots before) (length before) m m.channels),
      length-channel_hops (buses_of roots before) (length before) m m.channels,
      length-hops_by_bus roots before,
      buses_of-cons roots m before,
    )

-- the hop over a channel
read_channel : (first k : ℕ) (m : MuxSpec) (n j : ℕ) → j < n → slice_get (channel_hops first k m n) j ≡ Some (channel_hop first k m j)
read_channel first k m zero j low = absurd (omega (arith, low))
read_channel first k m (suc n) j low =
    let long = length-channel_hops first k m n in
    elim (cases_lt j n) [
      | inl front ↦ get_front (channel_hops first k m n) (channel_hop first k m n ∷ []) j (omega (arith, front, long))
          ∙ read_channel first k m n j front
      | inr back ↦
          let last : j ≡ length (channel_hops first k m n) + 0 = omega (arith, back, low, long) in
          let same : n ≡ j = omega (arith, back, low) in
          ap (slice_get (channel_hops first k m (suc n))) last
          ∙ get_back (channel_hops first k m n) (channel_hop first k m n ∷ []) 0
          ∙ ap (λ i. Some (channel_hop first k m i)) same
    ]

-- a hop over a mux
abbrev pub hop_of_channel : (bus number channel : ℕ) → MuxSpec → Hop
hop_of_channel bus number channel m = record {
  bus = bus;
  mux = number;
  channel = channel;
  on = m.bus;
  parent = is_parent m.lock;
  kind = m.kind;
  stays = is_staying m.idle;
}

channel_hop-is : (roots : ℕ) (before : List MuxSpec) (m : MuxSpec) (s : ℕ) → buses_of roots before ≤ s
    → channel_hop (buses_of roots before) (length before) m (s - buses_of roots before) ≡ hop_at roots before m s
channel_hop-is roots before m s cross =
    ap (λ (n : ℕ). hop_of_channel n (length before) (s - buses_of roots before) m)
    (let e : buses_of roots before + (s - buses_of roots before) ≡ s = omega (arith, cross) in e)

-- what is kept is the first hop over a bus
read_over : (roots : ℕ) (ms : List MuxSpec) (s : ℕ) → roots ≤ s → s < buses_of roots ms
    → slice_get (hops_by_bus roots ms) (s - roots) ≡ slice_get (hops_of roots ms s) 0
read_over roots [] s behind there = absurd (omega (arith, behind, there))
read_over roots (m ∷ before) s behind there =
    let first = buses_of roots before in
    let n = length before in
    let long = length-hops_by_bus roots before in
    elim (cases_lt s first) [
      | inl pass ↦
          get_front (hops_by_bus roots before) (channel_hops first n m m.channels) (s - roots) (omega (arith, pass, behind, long))
          ∙ read_over roots before s behind pass
          ∙ ap (λ (hs : List Hop). slice_get hs 0) (sym (hops_of-pass roots m before s pass))
      | inr cross ↦
          let place : s - roots ≡ length (hops_by_bus roots before) + (s - first) = omega (arith, cross, behind, long) in
          ap (slice_get (hops_by_bus roots (m ∷ before))) place
          ∙ get_back (hops_by_bus roots before) (channel_hops first n m m.channels) (s - first)
          ∙ read_channel first n m m.channels (s - first) (omega (arith, cross, there, buses_of-cons roots m before))
          ∙ ap (λ h. Some h) (channel_hop-is roots before m s cross)
          ∙ ap (λ (hs : List Hop). slice_get hs 0) (sym (hops_of-cross roots m before s cross))
    ]

-- a bus behind the last one hangs from the last mux
over_last : (roots : ℕ) (m : MuxSpec) (before : List MuxSpec) (s : ℕ) → buses_of roots (m ∷ before) ≤ s
    → slice_get (hops_of roots (m ∷ before) s) 0 ≡ Some (hop_at roots before m s)
over_last roots m before s behind =
    ap (λ (hs : List Hop). slice_get hs 0) (hops_of-cross roots m before s (omega (arith, behind, buses_of-cons roots m before)))

-- the hops of the first muxes, and of one more
pub hops_by_bus-more : (roots : ℕ) (ms : List MuxSpec) (i : ℕ) (d : MuxSpec) → i < length ms
    → hops_by_bus roots (reverse (take (i + 1) ms))
    ≡ hops_by_bus roots (reverse (take i ms)) ++ channel_hops (buses_of roots (take i ms)) i (get_or ms i d) (get_or ms i d).channels
hops_by_bus-more roots ms i d low =
    let m = get_or ms i d in
    let n : length (reverse (take i ms)) ≡ i = omega (arith, length-reverse (take i ms), length-take i ms, low) in
    ap (λ xs. hops_by_bus roots (reverse xs)) (take_more ms i d low)
    ∙ ap (hops_by_bus roots) (reverse-append (take i ms) (m ∷ []))
    ∙ ap (λ f. hops_by_bus roots (reverse (take i ms)) ++ channel_hops f (length (reverse (take i ms))) m m.channels)
    (buses_of-reverse roots (take i ms))
    ∙ ap (λ k. hops_by_bus roots (reverse (take i ms)) ++ channel_hops (buses_of roots (take i ms)) k m m.channels) n

-- there are no more hops than muxes
length-hops_of : (roots : ℕ) (ms : List MuxSpec) (s : ℕ) → length (hops_of roots ms s) ≤ length ms
length-hops_of roots [] s = omega arith
length-hops_of roots (m ∷ before) s =
    elim (nat_le (buses_of roots before) s)
    as (λ t. length (put_if t (hop_at roots before m s) (hops_of roots before (cond t m.bus s))) ≤ suc (length before)) [
      | true ↦ (let few = length-hops_of roots before m.bus in omega (arith, few))
      | false ↦ (let few = length-hops_of roots before s in omega (arith, few))
    ]

pub hops_le : (b : BoardView) (s : ℕ) → length (hops b s) ≤ length b.muxes
hops_le b s = omega (arith, length-hops_of (length b.roots) (reverse b.muxes) s, length-reverse b.muxes)

-- the hops that a layout of the board has
module _ (b : BoardView) (kept : List Hop) (is : kept ≡ hops_by_bus (length b.roots) (reverse b.muxes)) where
  pub length-kept : length b.roots + length kept ≡ buses b
  length-kept =
      let n : length kept ≡ length (hops_by_bus (length b.roots) (reverse b.muxes)) = ap length is in
      omega (arith, n, length-hops_by_bus (length b.roots) (reverse b.muxes), buses_of-reverse (length b.roots) b.muxes)

  pub kept_over : (s : ℕ) → length b.roots ≤ s → s < buses b → slice_get kept (s - length b.roots) ≡ over b s
  kept_over s behind there =
      ap (λ (hs : List Hop). slice_get hs (s - length b.roots)) is
      ∙ read_over (length b.roots) (reverse b.muxes) s behind (omega (arith, there, buses_of-reverse (length b.roots) b.muxes))

module _ (b : BoardView) (plain : IsPlainBoard b) where
  -- above the mux over a bus lies the way of the bus that it stands on
  pub way_up : (s : ℕ) (h : Hop) → over b s ≡ Some h → hops b s ≡ h ∷ hops b h.on
  way_up s h e = by (hops b s) refl
    where
      by : (hs : List Hop) → hops b s ≡ hs → hops b s ≡ h ∷ hops b h.on
      by [] is = absurd (none-some h (ap (λ (xs : List Hop). slice_get xs 0) (sym is) ∙ e))
      by (g ∷ hs) is =
          let same : g ≡ h = same_Some g h (ap (λ (xs : List Hop). slice_get xs 0) (sym is) ∙ e) in
          is ∙ ap (λ x. x ∷ hs) same
          ∙ ap (λ (xs : List Hop). h ∷ xs) (sym (tree_tail b plain.planted s g hs is) ∙ ap (λ (x : Hop). hops b x.on) same)

  pub way_ends : (s : ℕ) → over b s ≡ None → hops b s ≡ []
  way_ends s e = by (hops b s) refl
    where
      by : (hs : List Hop) → hops b s ≡ hs → hops b s ≡ []
      by [] is = is
      by (g ∷ hs) is = absurd (none-some g (sym (sym (ap (λ (xs : List Hop). slice_get xs 0) is) ∙ e)))

  -- .. which has a smaller number
  pub way_falls : (s : ℕ) (h : Hop) → over b s ≡ Some h → h.on < s
  way_falls s h e = (tree_leads b plain.planted s h (hops b h.on) (way_up s h e)).1

  -- the same of what is found over a bus, if anything is
  pub way_first : (s : ℕ) (o : Option Hop) → o ≡ over b s → IfSome o (λ h. hops b s ≡ h ∷ hops b h.on)
  way_first s None is = tt
  way_first s (Some h) is = way_up s h (sym is)

  pub first_falls : (s : ℕ) (o : Option Hop) → o ≡ over b s → IfSome o (λ h. h.on < s)
  first_falls s None is = tt
  first_falls s (Some h) is = way_falls s h (sym is)

  -- nothing is below a bus with a smaller number
  pub above_no : (s u : ℕ) → s ≤ u → is_below b s u ≡ false
  above_no s u low = tree_above b plain.planted s u low

  -- a root has no mux over it
  pub over_root : (s : ℕ) → s < length b.roots → over b s ≡ None
  over_root s root = ap (λ (hs : List Hop). slice_get hs 0) (tree_root_hops b plain.planted s root)

  -- a bus behind the last one hangs from the last mux
  pub over_beyond : (s : ℕ) (m : MuxSpec) → buses b ≤ s → slice_get b.muxes (length b.muxes - 1) ≡ Some m
      → over b s ≡ Some (hop_of_channel s (length b.muxes - 1) (s - (buses b - m.channels)) m)
  over_beyond s m behind last =
      let ms = b.muxes in
      let some : 0 < length ms = omega (arith, slice_get_within ms (length ms - 1) m last) in
      let before = reverse (take (length ms - 1) ms) in
      let at : get_or ms (length ms - 1) m ≡ m = same_Some (get_or ms (length ms - 1) m) m
      (sym (slice_get-get_or ms (length ms - 1) m (omega (arith, some))) ∙ last) in
      let whole : reverse ms ≡ m ∷ before =
      ap reverse (sym (take_all (length ms) ms (omega arith))) ∙ reverse_back ms (length ms) m some (omega arith)
      ∙ ap (λ x. x ∷ before) at in
      let sum : buses_of (length b.roots) before + m.channels ≡ buses b = sym (buses_of-cons (length b.roots) m before)
      ∙ ap (buses_of (length b.roots)) (sym whole) ∙ buses_of-reverse (length b.roots) ms in
      let number : length before ≡ length ms - 1 =
      omega (arith, length-reverse (take (length ms - 1) ms), length-take-le (length ms - 1) ms (omega arith)) in
      ap (λ xs. slice_get (hops_of (length b.roots) xs s) 0) whole
      ∙ over_last (length b.roots) m before s (omega (arith, behind, sum, buses_of-cons (length b.roots) m before))
      ∙ ap (λ n. Some (hop_of_channel s n (s - buses_of (length b.roots) before) m)) number
      ∙ ap (λ n. Some (hop_of_channel s (length ms - 1) n m))
      (let e : s - buses_of (length b.roots) before ≡ s - (buses b - m.channels) = omega (arith, sum) in e)

  pub over_nothing : (s : ℕ) → buses b ≤ s → slice_get b.muxes (length b.muxes - 1) ≡ None → over b s ≡ None
  over_nothing s behind none = by b.muxes refl
    where
      by : (ms : List MuxSpec) → b.muxes ≡ ms → over b s ≡ None
      by [] is = ap (λ xs. slice_get (hops_of (length b.roots) (reverse xs) s) 0) is
      by (m ∷ ms) is =
          let some : 0 < length b.muxes = (let n : length b.muxes ≡ length (m ∷ ms) = ap length is in omega arith) in
          absurd (none-some (get_or b.muxes (length b.muxes - 1) m)
          (sym none ∙ slice_get-get_or b.muxes (length b.muxes - 1) m (omega (arith, some))))

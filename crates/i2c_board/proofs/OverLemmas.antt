-- The mux over a bus: none for a root, and else by one of the 8 channels that a mux may have. No induction.
use Rattle.i2c_board.proofs.Cited.{◌≡◌, ℕ, ◌<◌, List, [], ◌∷◌, length, Some, None, slice_get, inl, refl, sym, ap, subst, arith, none-some}
use Rattle.i2c_board.proofs.Cited.{BoardView, Hop, hops, over, buses, IsPlainBoard, tree_root_hops}
use Rattle.i2c_spec.specs.Tree.{end_of, IsAmongHops}
use Rattle.i2c_spec.proofs.PlainLemmas.{channels_of_mux_le}
use Rattle.i2c_spec.proofs.TreeLemmas.{tree_within, tree_root_is}

none_from_over : (hs : List Hop) → slice_get hs 0 ≡ None → hs ≡ []
none_from_over [] e = refl
none_from_over (h ∷ hs) e = absurd (none-some h (sym e))

first_among : (hs : List Hop) (h : Hop) → slice_get hs 0 ≡ Some h → IsAmongHops h hs
first_among [] h e = absurd (none-some h e)
first_among (g ∷ hs) h e = inl (let same : h ≡ g = cc in same)

-- none exactly for a root
pub over_none : (b : BoardView) (s : ℕ) → IsPlainBoard b → s < buses b → over b s ≡ None → s < length b.roots
over_none b s plain there e =
    let none = none_from_over (hops b s) e in
    subst (λ n. n < length b.roots) (ap (λ hs. end_of s hs) none) (tree_root_is b plain.planted s there)

pub over_root : (b : BoardView) (s : ℕ) → IsPlainBoard b → s < length b.roots → over b s ≡ None
over_root b s plain root = ap (λ (hs : List Hop). slice_get hs 0) (tree_root_hops b plain.planted s root)

-- a mux has 8 channels at most
pub over_channel : (b : BoardView) (s : ℕ) (h : Hop) → IsPlainBoard b → s < buses b → over b s ≡ Some h → h.channel < 8
over_channel b s h plain there e =
    omega (arith, tree_within b plain.planted s h there (first_among (hops b s) h e), channels_of_mux_le b h.mux plain)

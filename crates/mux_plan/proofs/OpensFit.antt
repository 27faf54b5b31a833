-- The muxes over a bus of an accepted board: each on one of the first eight channels.
use Rattle.mux_plan.proofs.Cited.{ℕ, ◌<◌, List, [], ◌∷◌, refl, arith, inl, inr, All, BoardView, Hop, hops, IsPlainBoard, IsNarrow}
use Rattle.std.proofs.lemmas.List.Elements.{All-nil, All-cons}
use Rattle.i2c_spec.specs.Tree.{buses, IsAmongHops}
use Rattle.i2c_spec.specs.Rules.{MeetsRules}
use Rattle.i2c_spec.proofs.AddressLemmas.{tree_of}
use Rattle.i2c_spec.proofs.PlainLemmas.{channels_of_mux_le}

all_among : (P : Hop → Type 0) (hs : List Hop) → ((h : Hop) → IsAmongHops h hs → P h) → All P hs
all_among P [] f = All-nil P
all_among P (h ∷ hs) f = All-cons P h hs (f h (inl refl)) (all_among P hs (λ g among. f g (inr among)))

pub path_narrow : (b : BoardView) (s : ℕ) → IsPlainBoard b → MeetsRules b → s < buses b → All IsNarrow (hops b s)
path_narrow b s plain meets there =
    all_among IsNarrow (hops b s) (λ h among. omega
    (arith, (tree_of b plain meets).within s h there among, channels_of_mux_le b h.mux plain))

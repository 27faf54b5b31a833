-- A transfer on a bus that isn't there is refused, so no message of it comes next.
use Rattle.bus_core.proofs.Cited.{◌≡◌, ◌⊎◌, ◌<◌, ℕ, true, false, Option, Some, None, refl, sym, ◌∙◌, ap, inl, inr, ltb-true, Errno}
use Rattle.bus_core.proofs.Cited.{BoardView, TransferView, buses, is_over, walk_for, ActOutcome, WalkTree, IsLone, behind_of, LocksView}
use Rattle.bus_laws.proofs.tree.Law.{refusal-none}
use Rattle.i2c_spec.specs.Flat.{refusal}
use Rattle.bus_spec.specs.Grammar.{walk_by}

-- a transfer that isn't refused is on a bus that is there
bus-there : (b : BoardView) (t : TransferView) → refusal b t ≡ None → t.bus < buses b
bus-there b t accepted = ltb-true t.bus (buses b) (refusal-none b t accepted).0

-- a refused transfer's walk is over after its step
pub lone-ends : (b : BoardView) (v : LocksView) (w : WalkTree) (out : ActOutcome) → IsLone b w → is_over (behind_of v w out) ≡ true
lone-ends b v w out lone = ap (λ (x : WalkTree). is_over (behind_of v x out)) lone.is

-- after each step
pub there-behind : (b : BoardView) (v : LocksView) (bus : ℕ) (w : WalkTree) (out : ActOutcome) → (bus < buses b) ⊎ IsLone b w
    → is_over (behind_of v w out) ≡ false → (bus < buses b) ⊎ IsLone b (behind_of v w out)
there-behind b v bus w out there goes = elim there [
  | inl low ↦ inl low
  | inr lone ↦ absurd (let f : true ≡ false = sym (lone-ends b v w out lone) ∙ goes in cc)
]

-- a transfer's walk: the bus is there, or it is refused
pub there-for : (b : BoardView) (t : TransferView) → (t.bus < buses b) ⊎ IsLone b (walk_for b t)
there-for b t = by (refusal b t) refl
  where
    by : (o : Option Errno) → refusal b t ≡ o → (t.bus < buses b) ⊎ IsLone b (walk_by b t o)
    by (Some e) is = inr (record { errno = e; is = refl })
    by None is = inl (bus-there b t is)

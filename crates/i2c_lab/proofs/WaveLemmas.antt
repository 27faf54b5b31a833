-- The waves of a port that a run has left are those of the root at its number. No induction.
use Rattle.std.proofs.Common.{◌≡◌, ℕ, ◌<◌, List, map, length, Some, Result, Ok, sym, ◌∙◌, subst, zero-add}
use Rattle.std.specs.Prelude.{IfOk, slice_get}
use Rattle.std.specs.List.{range_with_len}
use Rattle.std.proofs.lemmas.List.FromFn.{get_or-range_with_len}
use Rattle.std.proofs.lemmas.Option.{get_or_from_slice_get}
use Rattle.i2c_base.proofs.ListLemmas.{all_at, map_at}
use Rattle.i2c_base.specs.Board.{BoardView}
use Rattle.i2c_spec.specs.World.{World, AreWorldsOf}
use Rattle.i2c_bits.specs.PortViews.{BitPortView}
use Rattle.bus_waves.specs.Waves.{IsWave}
use Rattle.i2c_lab.specs.Waves.{IsWaveAt}

-- what is so of the value of an answer that is Ok
pub at-ok : {A E : Type 0} (r : Result A E) (Q : A → Type 0) (a : A) → r ≡ Ok a → IfOk r Q → Q a
at-ok {A} {E} r Q a is = subst (λ (x : Result A E). IfOk x Q) is

pub wave-on : (b : BoardView) (ports : List BitPortView) (root : ℕ) (text : List ℕ) → root < length b.roots
    → AreWorldsOf b (map (λ (p : BitPortView). p.world) ports) → (at : IsWaveAt ports root text) → IsWave b root at.port.log text
wave-on b ports root text low are at =
    let world = at.port.world in
    let here : slice_get (map (λ (p : BitPortView). p.world) ports) root ≡ Some world =
    map_at (λ (p : BitPortView). p.world) ports root at.port at.at in
    let numbered : slice_get (range_with_len 0 (length b.roots)) root ≡ Some world.root =
    subst (λ (ns : List ℕ). slice_get ns root ≡ Some world.root) are.roots
    (map_at (λ (w : World). w.root) (map (λ (p : BitPortView). p.world) ports) root world here) in
    let number : world.root ≡ root =
    sym (get_or_from_slice_get (range_with_len 0 (length b.roots)) root world.root 0 numbered)
    ∙ get_or-range_with_len 0 (length b.roots) root 0 low ∙ zero-add root in
    subst (λ (k : BoardView). IsWave k root at.port.log text)
    (all_at (λ (w : World). w.board ≡ b) (map (λ (p : BitPortView). p.world) ports) root world are.boards here) (at.wave number)

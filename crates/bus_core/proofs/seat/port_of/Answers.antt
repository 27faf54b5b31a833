use Rattle.bus_core.proofs.Cited.{◌≡◌, ◌<◌, ℕ, length, get_or, sym, ◌∙◌, ap, arith, rules, inl, inr, eqb_tells, length-map}
use Rattle.bus_core.proofs.Cited.{get_or_from_slice_get, slice_get_within, roots_of, map_from}
use Rattle.bus_core.proofs.SeatLemmas.{told_apart}
use Rattle.bus_core.proofs.seat.port_of.Goals as goal

pub loop-place-preserved : goal.loop-place-preserved
loop-place-preserved g c =
    let root : ℕ × g.row.P.Denot → ℕ = λ p. p.0 in
    record {
      end_is = search rules;
      before = λ i low is. elim (eqb_tells i c.loop-place.place) [
        | inl e ↦ (let at = map_from root c.args.ports.now i c.args.root is in
            let read = c.index-ports-place.result in
            let same : get_or c.args.ports.now c.loop-place.place read ≡ at.0 =
            ap (λ k. get_or c.args.ports.now k read) (sym e.1) ∙ get_or_from_slice_get c.args.ports.now i at.0 read at.1 in
            told_apart _ c.args.root (sym c.eq.ensures ∙ c.if-eq.false) (ap root same ∙ at.2))
        | inr e ↦ c.loop-place.invariant.before i (omega (arith, low, e.1)) is
      ];
    }

pub returns : goal.returns
returns g c =
    λ has.
    let low : has.place < length (roots_of c.args.ports.now) = slice_get_within
    (roots_of c.args.ports.now) has.place c.args.root has.here in
    let n : length (roots_of c.args.ports.now) ≡ length c.args.ports.now = length-map c.args.ports.now _ in
    absurd (c.loop-place.invariant.before has.place (omega (arith, low, n, c.loop-place-test.false)) has.here)

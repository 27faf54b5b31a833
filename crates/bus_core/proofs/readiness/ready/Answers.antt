use Rattle.bus_core.proofs.Cited.{◌≡◌, ℕ, ◌<◌, length, Some, None, sym, ◌∙◌, ap, subst, arith, inl, inr, slice_get, eqb_tells, length-map}
use Rattle.bus_core.proofs.Cited.{slice_get_within, script_of, scripts_of, IsHeldUpAt}
use Rattle.bus_core.specs.Ready.{CanStepAt}
use Rattle.bus_core.proofs.SeatLemmas.{number_read}
use Rattle.bus_core.proofs.readiness.ready.Goals.{in-Some+else-can_step, in_default}
use Rattle.bus_core.proofs.readiness.ready.Goals as goal

pub loop-number-init : goal.loop-number-init
loop-number-init g c m low q at = absurd (omega (arith, low))

pub can_step-requires-clause-rests : goal.can_step-requires-clause-rests
can_step-requires-clause-rests g c κs within = record { kept = c.requires.core.kept; looked = c.requires.core.looked }

pub can_step-requires-clause-there : goal.can_step-requires-clause-there
can_step-requires-clause-there g c κs within =
    let x = c.args.parts.now in
    let placed = c.requires.core.placed in
    let at = number_read x.places.items c.from.ensures (omega (arith, placed.all, c.loop-number-test.true)) c.index.ensures c.in-Some.is in
    let s = placed.there c.loop-number.number c.in-Some.place at in
    let low : c.in-Some.place < length (scripts_of g.C.Caller x.seats.items) = slice_get_within
    (scripts_of g.C.Caller x.seats.items) c.in-Some.place (c.loop-number.number, s.0) s.1 in
    let all : length (scripts_of g.C.Caller x.seats.items) ≡ length x.seats.items = length-map x.seats.items (script_of g.C.Caller) in
    omega (arith, low, all, c.from-in-Some.ensures)

pub loop-number-preserved : goal.loop-number-preserved
loop-number-preserved g c m low q at =
    let x = c.args.parts.now in
    let all : c.loop-number.number < length x.places.items = omega (arith, c.requires.core.placed.all, c.loop-number-test.true) in
    elim (eqb_tells m c.loop-number.number) [
      | inl e ↦ (elim c.match-index.branch [
        | in-Some+else-can_step w ↦ (let here = number_read x.places.items c.from.ensures all c.index.ensures w.in-Some.is in
            let same : w.from-in-Some.result ≡ q = w.from-in-Some.ensures
            ∙ (let f : Some (Some w.in-Some.place) ≡ Some (Some q) = sym here ∙ ap (slice_get x.places.items) (sym e.1) ∙ at in cc) in
            subst (λ (y : ℕ). IsHeldUpAt x y) same (w.can_step.ensures.held_up w.if-can_step.false))
        | in_default w ↦ (let here = number_read x.places.items c.from.ensures all c.index.ensures w.in_default.is in
            absurd (let f : Some None ≡ Some (Some q) = sym here ∙ ap (slice_get x.places.items) (sym e.1) ∙ at in cc))
      ])
      | inr e ↦ c.loop-number.invariant m (omega (arith, low, e.1)) q at
    ]

pub returns-then-can_step-clause-some : goal.returns-then-can_step-clause-some
returns-then-can_step-clause-some g c =
    let x = c.args.parts.now in
    record {
      place = c.in-Some.place;
      at = number_read x.places.items c.from.ensures
          (omega (arith, c.requires.core.placed.all, c.loop-number-test.true)) c.index.ensures c.in-Some.is;
      can = subst (λ (y : ℕ). CanStepAt x y) c.from-in-Some.ensures (c.can_step.ensures.can c.if-can_step.true);
      before = c.loop-number.invariant;
    }

pub returns-clause-none : goal.returns-clause-none
returns-clause-none g c is m q at =
    let low : m < length c.args.parts.now.places.items = slice_get_within c.args.parts.now.places.items m (Some q) at in
    c.loop-number.invariant m (omega (arith, low, c.requires.core.placed.all, c.loop-number-test.false)) q at

use Rattle.bus_core.proofs.Cited.{◌≡◌, ◌<◌, length, Some, refl, sym, ◌∙◌, ap, subst, arith, inl, inr, slice_get, eqb_tells}
use Rattle.bus_core.proofs.Cited.{slice_get_within, IsCore, IsHeldUpAt, HasMade, CoreInside}
use Rattle.bus_core.proofs.running.advance_least.Goals.{else-not-is_through-via-then-not-is_through+else-advance}
use Rattle.bus_core.proofs.running.advance_least.Goals.{else-not-is_through-via-else-not-is_through}
use Rattle.bus_core.proofs.running.advance_least.Goals as goal

pub loop-number-init : goal.loop-number-init
loop-number-init g c = record { same = refl; before = λ m low q at. absurd (omega (arith, low)) }

pub advance-requires-clause-core : goal.advance-requires-clause-core
advance-requires-clause-core g c κs within = subst (λ (y : CoreInside _ _). IsCore g.P.Port g.C.Caller y)
    (sym c.loop-number.invariant.same) c.requires.core

pub advance-requires-clause-has : goal.advance-requires-clause-has
advance-requires-clause-has g c κs within = c.is_through.ensures.there c.if-not-is_through.true

pub returns-then-advance-clause-made : goal.returns-then-advance-clause-made
returns-then-advance-clause-made g c is =
    let same = c.loop-number.invariant.same in
    let there = c.is_through.ensures.there c.if-not-is_through.true in
    record {
      caller = c.loop-number.number;
      place = there.place;
      at = ap (λ (y : CoreInside _ _). slice_get y.places.items c.loop-number.number) (sym same) ∙ there.at;
      before = c.loop-number.invariant.before;
      made = subst (λ (y : CoreInside _ _). HasMade g.P.Port g.C.Caller c.loop-number.number y c.advance.new.parts) same
          (c.advance.ensures.made c.if-advance.true);
    }

pub loop-number-preserved : goal.loop-number-preserved
loop-number-preserved g c =
    let x = c.args.parts.now in
    let now = c.loop-number.parts in
    let same = c.loop-number.invariant.same in
    record {
      same = elim c.else-not-is_through.branch [
        | else-not-is_through-via-then-not-is_through+else-advance w ↦ w.parts-is ∙ (w.advance.ensures.waited w.if-advance.false).same
            ∙ same
        | else-not-is_through-via-else-not-is_through w ↦ w.parts-is ∙ same
      ];
      before = λ m below q at.
          elim (eqb_tells m c.loop-number.number) [
            | inl e ↦ (let here : slice_get now.places.items c.loop-number.number ≡ Some (Some q) =
                ap (λ (y : CoreInside _ _). slice_get y.places.items c.loop-number.number) same ∙ ap (slice_get x.places.items) (sym e.1)
                ∙ at in
                elim c.else-not-is_through.branch [
                  | else-not-is_through-via-then-not-is_through+else-advance w ↦ subst (λ (y : CoreInside _ _). IsHeldUpAt y q) same
                      (w.advance.ensures.held_up w.if-advance.false q here)
                  | else-not-is_through-via-else-not-is_through w ↦ subst (λ (y : CoreInside _ _). IsHeldUpAt y q) same
                      (c.is_through.ensures.through w.if-not-is_through.false q here)
                ])
            | inr e ↦ c.loop-number.invariant.before m (omega (arith, below, e.1)) q at
          ];
    }

pub returns-clause-core : goal.returns-clause-core
returns-clause-core g c = subst (λ (y : CoreInside _ _). IsCore g.P.Port g.C.Caller y) (sym c.loop-number.invariant.same) c.requires.core

pub returns-clause-none : goal.returns-clause-none
returns-clause-none g c is = (
  c.loop-number.invariant.same,
  λ m q at.
      let low : m < length c.args.parts.now.places.items = slice_get_within c.args.parts.now.places.items m (Some q) at in
      c.loop-number.invariant.before m (omega (arith, low, c.requires.core.placed.all, c.loop-number-test.false)) q at,
)

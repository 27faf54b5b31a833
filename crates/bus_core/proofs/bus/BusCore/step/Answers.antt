use Rattle.bus_core.proofs.Cited.{◌≡◌, ℕ, ◌<◌, true, length, Some, sym, ◌∙◌, ap, subst, arith, vec_len, slice_get_within, HasAdded}
use Rattle.bus_core.proofs.Cited.{WaitsFor, HasUsedUp, IsOverIn, HasCome, HasStepped, CoreState, CoreTold, has_caller, roots_in, state_of}
use Rattle.bus_core.proofs.Cited.{IsBlockedAt, HasEndedAt, CoreInside, IsCore, slice_get}
use Rattle.bus_core.proofs.Advances.{within as is_within, has-made}
use Rattle.bus_core.proofs.Told.{added, came-by, core-after, core-told, never-none, over-told, opening-same, placed-of, placed-read}
use Rattle.bus_core.proofs.Told.{roots-same, used-up, waits-for}
use Rattle.bus_core.specs.declared.steps.StepAnswer.TheVariants as answer
use Rattle.bus_core.proofs.bus.BusCore.step.Given.{Over}
use Rattle.bus_core.proofs.bus.BusCore.step.Goals.{After-step}
use Rattle.bus_core.proofs.bus.BusCore.step.Goals as goal

pub index-requires : goal.index-requires
index-requires g c =
    let x = c.self.inside.parts in
    let place = placed-of g.P.Port g.C.Caller x c.self.invariant c.args.caller
    (subst (λ (v : CoreState _). has_caller v.opening.scripts c.args.caller ≡ true) (sym c.self.view_is) c.requires.has) in
    let low = slice_get_within x.places.items c.args.caller (Some place.place) place.at in
    let all : vec_len x.places ≡ length x.places.items = x.places.ok.0 in
    omega (arith, low, all, c.from.ensures)

pub step-requires-clause-rests : goal.step-requires-clause-rests
step-requires-clause-rests g c κs within = record { kept = c.self.invariant.kept; looked = c.self.invariant.looked }

pub step-requires-clause-there : goal.step-requires-clause-there
step-requires-clause-there g c κs within =
    let x = c.self.inside.parts in
    let core = c.self.invariant in
    let at = placed-read g.P.Port g.C.Caller x core c.self.view_is c.args.caller c.requires.has c.from.ensures c.index.ensures
    c.in-Some.is in
    subst (λ (k : ℕ). k < length x.seats.items) (sym c.from-in-Some.ensures)
    (is_within g.P.Port g.C.Caller x core.kept core.placed c.args.caller c.in-Some.place at)

-- what the step leaves came of what was
module _ (g : Over) (c : After-step g) where
  at : slice_get c.self.inside.parts.places.items c.args.caller ≡ Some (Some c.in-Some.place)
  at = placed-read g.P.Port g.C.Caller c.self.inside.parts c.self.invariant c.self.view_is c.args.caller c.requires.has c.from.ensures
      c.index.ensures c.in-Some.is

  stepped : c.step.result ≡ answer.Stepped → HasStepped g.P.Port g.C.Caller c.in-Some.place c.self.inside.parts c.step.new.parts
  stepped is = subst (λ (k : ℕ). HasStepped g.P.Port g.C.Caller k c.self.inside.parts c.step.new.parts) c.from-in-Some.ensures
      (c.step.ensures.stepped is)

  come : HasCome g.P.Port g.C.Caller c.self.inside.parts c.step.new.parts
  come = came-by g.P.Port g.C.Caller c.self.inside.parts c.step.new.parts c.self.invariant c.args.caller c.in-Some.place at c.step.result
      stepped (λ l h is. (c.step.ensures.blocked l h is).0) (λ is. (c.step.ensures.finished is).0)

  core : IsCore g.P.Port g.C.Caller c.step.new.parts
  core = core-after g.P.Port g.C.Caller c.self.inside.parts c.step.new.parts c.self.invariant c.step.ensures.rests.kept
      c.step.ensures.rests.looked come

pub invariant_of-self : goal.invariant_of-self
invariant_of-self g c = core g (goal.at.invariant_of-self g c).After-step

pub returns-in-Some : goal.returns-in-Some
returns-in-Some g c =
    let x = c.self.inside.parts in
    let new = c.step.new.parts in
    let was = c.self.invariant in
    let asked = g.C.Caller.asked in
    let tells = g.P.Port.tells in
    let a = (goal.at.returns-in-Some g c).After-step in
    record {
      opening = opening-same g.P.Port g.C.Caller x new (come g a) ∙ ap (λ (v : CoreState _). v.opening) c.self.view_is;
      roots = roots-same g.P.Port g.C.Caller x new (come g a) ∙ ap roots_in c.self.view_is;
      setups = (come g a).setups ∙ ap (λ (v : CoreState _). v.setups) c.self.view_is;
      told = core-told g.P.Port g.C.Caller new (core g a);
      stepped = λ is. subst (λ (v : CoreState _). HasAdded asked tells c.args.caller v (state_of g.P.Port g.C.Caller new)) c.self.view_is
          (added g.P.Port g.C.Caller x new c.args.caller
          (has-made g.P.Port g.C.Caller x was.kept was.placed c.args.caller c.in-Some.place (at g a) new (stepped g a is)));
      blocked = λ l h is.
          let b = c.step.ensures.blocked l h is in (
            ap (λ (y : CoreInside _ _). state_of g.P.Port g.C.Caller y) b.0 ∙ c.self.view_is,
            subst (λ (v : CoreState _). WaitsFor asked tells v c.args.caller l h) c.self.view_is
                (waits-for g.P.Port g.C.Caller x was c.args.caller c.in-Some.place (at g a) l h
                (subst (λ (k : ℕ). IsBlockedAt x k l h) c.from-in-Some.ensures b.1)),
          );
      finished = λ is.
          let e = c.step.ensures.finished is in (
            ap (λ (y : CoreInside _ _). state_of g.P.Port g.C.Caller y) e.0 ∙ c.self.view_is,
            subst (λ (v : CoreState _). HasUsedUp asked v c.args.caller) c.self.view_is
                (used-up g.P.Port g.C.Caller x was c.args.caller c.in-Some.place (at g a)
                (subst (λ (k : ℕ). HasEndedAt x k) c.from-in-Some.ensures e.1)),
          );
      over = λ tell is.
          let e = c.step.ensures.finished is in
          subst (λ (v : CoreState _). IsOverIn asked v c.args.caller) c.self.view_is
          (over-told g.P.Port g.C.Caller x was c.args.caller c.in-Some.place (at g a)
          (subst (λ (k : ℕ). HasEndedAt x k) c.from-in-Some.ensures e.1) tell);
    }

pub returns-in-None-clause-told : goal.returns-in-None-clause-told
returns-in-None-clause-told g c tell = subst (λ (v : CoreState _). CoreTold g.C.Caller.asked v) c.self.view_is
    (core-told g.P.Port g.C.Caller c.self.inside.parts c.self.invariant tell)

pub returns-in-None-clause-finished : goal.returns-in-None-clause-finished
returns-in-None-clause-finished g c is =
    absurd (never-none g.P.Port g.C.Caller c.self.inside.parts c.self.invariant c.self.view_is c.args.caller c.requires.has c.from.ensures
    c.index.ensures c.in-None.is)

pub returns-in-None-clause-over : goal.returns-in-None-clause-over
returns-in-None-clause-over g c tell is =
    absurd (never-none g.P.Port g.C.Caller c.self.inside.parts c.self.invariant c.self.view_is c.args.caller c.requires.has c.from.ensures
    c.index.ensures c.in-None.is)

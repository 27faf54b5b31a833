use Rattle.bus_core.proofs.Cited.{◌≡◌, ℕ, Some, None, true, false, sym, ◌∙◌, subst, arith, slice_get_within, IsCore, HasStepped, IsHeldUpAt}
use Rattle.bus_core.proofs.Cited.{HasWaited, IsBlockedAt, HasEndedAt, CoreInside}
use Rattle.bus_core.proofs.Advances.{waits-by, within as is_within, blocked-held_up, ended-held_up, blocked-stuck, ended-stuck, has-made}
use Rattle.bus_core.proofs.SeatLemmas.{number_read}
use Rattle.bus_core.proofs.running.advance.Goals as goal

pub step-requires-clause-rests : goal.step-requires-clause-rests
step-requires-clause-rests g c κs within = record { kept = c.requires.core.kept; looked = c.requires.core.looked }

pub step-requires-clause-there : goal.step-requires-clause-there
step-requires-clause-there g c κs within =
    let x = c.args.parts.now in
    let low = slice_get_within x.places.items c.args.caller (Some c.requires.has.place) c.requires.has.at in
    let at = number_read x.places.items c.from.ensures low c.index.ensures c.in-Some.is in
    let inside = is_within g.P.Port g.C.Caller x c.requires.core.kept c.requires.core.placed c.args.caller c.in-Some.place at in
    omega (arith, inside, c.from-2.ensures)

pub returns-in-Stepped-clause-made : goal.returns-in-Stepped-clause-made
returns-in-Stepped-clause-made g c is =
    let x = c.args.parts.now in
    let low = slice_get_within x.places.items c.args.caller (Some c.requires.has.place) c.requires.has.at in
    let at = number_read x.places.items c.from.ensures low c.index.ensures c.in-Some.is in
    has-made g.P.Port g.C.Caller x c.requires.core.kept c.requires.core.placed c.args.caller c.in-Some.place at c.step.new.parts
    (subst (λ (k : ℕ). HasStepped g.P.Port g.C.Caller k x c.step.new.parts) c.from-2.ensures (c.step.ensures.stepped c.in-Stepped.is))

pub returns-in_default-clause-waited : goal.returns-in_default-clause-waited
returns-in_default-clause-waited g c is =
    let x = c.args.parts.now in
    let low = slice_get_within x.places.items c.args.caller (Some c.requires.has.place) c.requires.has.at in
    let at = number_read x.places.items c.from.ensures low c.index.ensures c.in_default.is in
    absurd (let f : Some None ≡ Some (Some c.requires.has.place) = sym at ∙ c.requires.has.at in cc)

pub returns-in_default-clause-held_up : goal.returns-in_default-clause-held_up
returns-in_default-clause-held_up g c is place here =
    let x = c.args.parts.now in
    let low = slice_get_within x.places.items c.args.caller (Some c.requires.has.place) c.requires.has.at in
    let at = number_read x.places.items c.from.ensures low c.index.ensures c.in_default.is in
    absurd (let f : Some None ≡ Some (Some place) = sym at ∙ here in cc)

pub returns-in_default-step : goal.returns-in_default-step
returns-in_default-step g c =
    let x = c.args.parts.now in
    let low = slice_get_within x.places.items c.args.caller (Some c.requires.has.place) c.requires.has.at in
    let at = number_read x.places.items c.from.ensures low c.index.ensures c.in-Some.is in
    let kept = c.requires.core.kept in
    let placed = c.requires.core.placed in
    let here = c.in-Some.place in
    let waits : HasWaited g.P.Port g.C.Caller c.args.caller x c.step.new.parts =
    waits-by (HasWaited g.P.Port g.C.Caller c.args.caller x c.step.new.parts) c.step.result c.in_default-step.not-Stepped
    (λ l h is. let b = c.step.ensures.blocked l h is in
    record {
      same = b.0;
      stuck = λ tell. blocked-stuck g.P.Port g.C.Caller x kept placed c.args.caller here at l h
          (subst (λ (k : ℕ). IsBlockedAt x k l h) c.from-2.ensures b.1) tell;
    })
    (λ is. let e = c.step.ensures.finished is in
    record {
      same = e.0;
      stuck = λ tell. ended-stuck g.P.Port g.C.Caller x kept placed c.args.caller here at
          (subst (λ (k : ℕ). HasEndedAt x k) c.from-2.ensures e.1) tell;
    }) in
    record {
      core = subst (λ (y : CoreInside _ _). IsCore g.P.Port g.C.Caller y) (sym waits.same) c.requires.core;
      made = λ is. absurd (let f : false ≡ true = is in cc);
      waited = λ is. waits;
      held_up = λ is place at2.
          let same : here ≡ place = (let f : Some (Some here) ≡ Some (Some place) = sym at ∙ at2 in cc) in
          subst (λ (k : ℕ). IsHeldUpAt x k) same
          (waits-by (IsHeldUpAt x here) c.step.result c.in_default-step.not-Stepped
          (λ l h told. blocked-held_up g.P.Port g.C.Caller x kept placed c.args.caller here at l h
          (subst (λ (k : ℕ). IsBlockedAt x k l h) c.from-2.ensures (c.step.ensures.blocked l h told).1))
          (λ told. ended-held_up g.P.Port g.C.Caller x kept placed c.args.caller here at
          (subst (λ (k : ℕ). HasEndedAt x k) c.from-2.ensures (c.step.ensures.finished told).1)));
    }

use Rattle.bus_core.proofs.Cited.{◌≡◌, ℕ, ◌<◌, length, Some, None, sym, ◌∙◌, ap, subst, arith, slice_get-get_or, IsHeldUpAt, HasEndedAt}
use Rattle.bus_core.proofs.Advances.{within as is_within, ended-held_up}
use Rattle.bus_core.proofs.SeatLemmas.{number_read}
use Rattle.bus_core.proofs.running.is_through.Goals as goal

pub returns-in-Some-clause-through : goal.returns-in-Some-clause-through
returns-in-Some-clause-through g c is place here =
    let x = c.args.parts.now in
    let low : c.args.number < length x.places.items = omega (arith, c.requires.core.placed.all, c.requires.known) in
    let at = number_read x.places.items c.from.ensures low c.index.ensures c.in-Some.is in
    let same : c.in-Some.place ≡ place = (let f : Some (Some c.in-Some.place) ≡ Some (Some place) = sym at ∙ here in cc) in
    let inside = is_within g.P.Port g.C.Caller x c.requires.core.kept c.requires.core.placed c.args.number c.in-Some.place at in
    subst (λ (k : ℕ). IsHeldUpAt x k) same
    (ended-held_up g.P.Port g.C.Caller x c.requires.core.kept c.requires.core.placed c.args.number c.in-Some.place at
    (subst (λ (k : ℕ). HasEndedAt x k) c.from-in-Some.ensures (record {
      seat = c.index-in-Some.result.now;
      here = slice_get-get_or x.seats.items c.from-in-Some.result c.index-in-Some.result.now (omega (arith, inside, c.from-in-Some.ensures))
          ∙ ap Some (sym c.index-in-Some.ensures);
      over = sym c.is_over.ensures ∙ is;
    })))

pub returns-in-Some-clause-there : goal.returns-in-Some-clause-there
returns-in-Some-clause-there g c is =
    let x = c.args.parts.now in
    let low : c.args.number < length x.places.items = omega (arith, c.requires.core.placed.all, c.requires.known) in
    record {
      place = c.in-Some.place;
      at = number_read x.places.items c.from.ensures low c.index.ensures c.in-Some.is;
    }

pub returns-in-None-clause-through : goal.returns-in-None-clause-through
returns-in-None-clause-through g c is place here =
    let x = c.args.parts.now in
    let low : c.args.number < length x.places.items = omega (arith, c.requires.core.placed.all, c.requires.known) in
    let at = number_read x.places.items c.from.ensures low c.index.ensures c.in-None.is in
    absurd (let f : Some None ≡ Some (Some place) = sym at ∙ here in cc)

use Rattle.bus_core.proofs.Cited.{◌≡◌, ◌<◌, length, refl, ◌∙◌, ap, arith, vec_len, CoreState, has_caller}
use Rattle.std.proofs.lemmas.Bool.{le-ltb}
use Rattle.std.proofs.lemmas.Option.{slice_get_past}
use Rattle.bus_core.proofs.SeatLemmas.{number_read}
use Rattle.bus_core.proofs.Told.{placed-is, unplaced}
use Rattle.bus_core.proofs.bus.BusCore.has.Goals as goal

pub returns-then-place-len : goal.returns-then-place-len
returns-then-place-len g c =
    let x = c.self.inside.parts in
    let all : vec_len x.places ≡ length x.places.items = x.places.ok.0 in
    let low : c.args.caller < length x.places.items = omega (arith, all, c.len.ensures, c.from-place.ensures, c.if-place-len.true) in
    c.is_some.ensures
    ∙ placed-is g.P.Port g.C.Caller x c.self.invariant c.args.caller c.index.result.now
    (number_read x.places.items c.from-place.ensures low c.index.ensures refl)
    ∙ ap (λ (v : CoreState _). has_caller v.opening.scripts c.args.caller) c.self.view_is

pub returns-else-place-len : goal.returns-else-place-len
returns-else-place-len g c =
    let x = c.self.inside.parts in
    let all : vec_len x.places ≡ length x.places.items = x.places.ok.0 in
    le-ltb c.from-place.result c.len.result c.if-place-len.false
    ∙ unplaced g.P.Port g.C.Caller x c.self.invariant c.args.caller
    (slice_get_past x.places.items c.args.caller (omega (arith, all, c.len.ensures, c.from-place.ensures, c.if-place-len.false)))
    ∙ ap (λ (v : CoreState _). has_caller v.opening.scripts c.args.caller) c.self.view_is

use Rattle.bus_core.proofs.Cited.{subst, IsLeast, AllThrough, CoreState}
use Rattle.std.proofs.lemmas.Option.{IfSome_then}
use Rattle.bus_core.proofs.Loops.{all-through}
use Rattle.bus_core.proofs.Told.{is-least}
use Rattle.bus_core.proofs.bus.BusCore.ready.Goals as goal

pub returns-clause-some : goal.returns-clause-some
returns-clause-some g c =
    let x = c.self.inside.parts in
    IfSome_then c.ready.result c.ready.ensures.some
    (λ n least. subst (λ (v : CoreState _). IsLeast g.C.Caller.asked g.P.Port.tells v n) c.self.view_is
    (is-least g.P.Port g.C.Caller x c.self.invariant n least))

pub returns-clause-none : goal.returns-clause-none
returns-clause-none g c none =
    subst (λ (v : CoreState _). AllThrough g.C.Caller.asked g.P.Port.tells v) c.self.view_is
    (all-through g.P.Port g.C.Caller c.self.inside.parts c.self.invariant (c.ready.ensures.none none))

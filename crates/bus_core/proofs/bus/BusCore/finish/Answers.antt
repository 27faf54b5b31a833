use Rattle.bus_core.proofs.Told.{went-by}
use Rattle.bus_core.proofs.bus.BusCore.finish.Goals as goal

pub returns : goal.returns
returns g c =
    went-by g.P.Port g.C.Caller c.self.inside.parts c.finish.new.parts _ _ c.self.view_is c.finish.ensures.core c.finish.ensures.come
    c.finish.ensures.through c.finish.ensures.follows

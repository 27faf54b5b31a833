use Rattle.i2c_top.proofs.Cited.{◌<◌, length, refl, subst, sym, MOST_CALLS}
use Rattle.i2c_base.specs.declared.port.PortCall.TheVariants as call
use Rattle.i2c_top.proofs.FaultLemmas.{call-counted}
use Rattle.i2c_top.proofs.counted_port.CountedPortPort.stop.Goals as goal

pub invariant_of-self : goal.invariant_of-self
invariant_of-self g c =
    λ tells. call-counted _ _ _ _ (c.self.invariant tells) c.stop.ensures.later c.stop.result call.Stop refl
    (subst (λ p. length (g.P.Port.log p) < MOST_CALLS) (sym c.self.view_is) (c.requires.room tells))
    c.stop.ensures.cause (c.stop.ensures.log tells) (c.stop.ensures.log_failed tells)

use Rattle.i2c_top.proofs.Cited.{◌<◌, length, refl, subst, sym, MOST_CALLS}
use Rattle.i2c_base.specs.declared.port.PortCall.TheVariants as call
use Rattle.i2c_top.proofs.FaultLemmas.{call-counted}
use Rattle.i2c_top.proofs.counted_port.CountedPortPort.get.Goals as goal

pub invariant_of-self : goal.invariant_of-self
invariant_of-self g c =
    λ tells. call-counted _ _ _ _ (c.self.invariant tells) c.get.ensures.later c.get.result (call.Get c.args.ack) refl
    (subst (λ p. length (g.P.Port.log p) < MOST_CALLS) (sym c.self.view_is) (c.requires.room tells))
    c.get.ensures.cause (c.get.ensures.log tells) (c.get.ensures.log_failed tells)

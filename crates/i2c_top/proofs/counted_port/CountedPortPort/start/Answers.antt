use Rattle.i2c_top.proofs.Cited.{◌<◌, length, refl, subst, sym, MOST_CALLS}
use Rattle.i2c_base.specs.declared.port.PortCall.TheVariants as call
use Rattle.i2c_top.proofs.FaultLemmas.{call-counted}
use Rattle.i2c_top.proofs.counted_port.CountedPortPort.start.Goals as goal

pub invariant_of-self : goal.invariant_of-self
invariant_of-self g c =
    λ tells. call-counted _ _ _ _ (c.self.invariant tells) c.start.ensures.later c.start.result (call.Start c.args.addr c.args.reading) refl
    (subst (λ p. length (g.P.Port.log p) < MOST_CALLS) (sym c.self.view_is) (c.requires.room tells))
    c.start.ensures.cause (c.start.ensures.log tells) (c.start.ensures.log_failed tells)

use Rattle.journal_check.proofs.Cited.{All, subst, arith, take_all, FailedBy}
use Rattle.std.proofs.lemmas.List.Elements.{All-more}
use Rattle.journal_check.proofs.check.all_fail_as_told.Goals as goal

pub loop-port-preserved : goal.loop-port-preserved
loop-port-preserved g c =
    All-more (λ p. FailedBy (g.P.Port.log p.1) (g.P.FailsAsTold.gaps (g.P.Port.world p.1).root)) c.args.ports.now c.loop-port.port-index
    c.port-item.result c.loop-port-test.true c.loop-port.invariant
    (subst (λ p. FailedBy (g.P.Port.log p.1) (g.P.FailsAsTold.gaps (g.P.Port.world p.1).root)) c.port-item.is c.fails_as_told.ensures)

pub returns : goal.returns
returns g c =
    subst (λ ps. All (λ p. FailedBy (g.P.Port.log p.1) (g.P.FailsAsTold.gaps (g.P.Port.world p.1).root)) ps)
    (take_all c.loop-port.port-index c.args.ports.now (omega (arith, c.loop-port-test.false))) c.loop-port.invariant

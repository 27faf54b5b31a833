use Rattle.journal_check.proofs.Cited.{All, take, FailedBy}
use Rattle.journal_check.proofs.check.all_fail_as_told.Given as goal

abbrev pub invariant-loop-port : goal.invariant-loop-port
invariant-loop-port g l = All (λ p. FailedBy (g.P.Port.log p.1) (g.P.FailsAsTold.gaps (g.P.Port.world p.1).root))
    (take l.port-index l.ports)

use Rattle.caller_core.proofs.ReachLemmas.{lm75_marked}
use Rattle.caller_core.proofs.reach.Reach.mark_driver.Goals as goal

pub returns-in-Lm75Write-clause-written : goal.returns-in-Lm75Write-clause-written
returns-in-Lm75Write-clause-written c =
    lm75_marked c.args.board.now c.in-Lm75Write.write c.args.line.now _ _ c.in-Lm75Write.is c.write_at.ensures.written

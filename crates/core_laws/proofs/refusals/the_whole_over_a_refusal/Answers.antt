use Rattle.core_laws.proofs.CoreEnds.{core-lone, core-lone-finished}
use Rattle.core_laws.proofs.refusals.the_whole_over_a_refusal.Goals as goal

pub returns-clause-next : goal.returns-clause-next
returns-clause-next c run fair whole core place p ls n stands room verdict first rooms reply decided t asked =
    core-lone run fair whole core place p ls n stands room verdict first rooms reply decided t asked

pub returns-clause-finish : goal.returns-clause-finish
returns-clause-finish c run fair whole core place p ls n stands room verdict first rooms reply decided none =
    core-lone-finished run fair whole core place p ls n stands room verdict first rooms reply decided none

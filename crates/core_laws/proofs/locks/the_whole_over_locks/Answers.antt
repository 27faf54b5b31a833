use Rattle.core_laws.proofs.CoreSteps.{core-taken, core-freed, free_holds}
use Rattle.core_laws.proofs.CoreEnds.{core-ended, core-finished}
use Rattle.core_laws.proofs.locks.the_whole_over_locks.Goals as goal

pub returns-clause-take : goal.returns-clause-take
returns-clause-take c run fair whole core place p ls n stands room l first nobody rooms =
    core-taken run fair whole core place p ls n stands room l first nobody rooms

pub returns-clause-free : goal.returns-clause-free
returns-clause-free c run fair whole core place p ls n stands room l first goes_on rooms =
    (let h = free_holds run fair whole core place p ls n stands room l first in
    (h.0, h.1, core-freed run fair whole core place p ls n stands room l first goes_on rooms))

pub returns-clause-end : goal.returns-clause-end
returns-clause-end c run fair whole core place p ls n stands room l first ends r owed rooms t asked =
    core-ended run fair whole core place p ls n stands room l first ends r owed rooms t asked

pub returns-clause-finish : goal.returns-clause-finish
returns-clause-finish c run fair whole core place p ls n stands room l first ends r owed rooms none =
    core-finished run fair whole core place p ls n stands room l first ends r owed rooms none

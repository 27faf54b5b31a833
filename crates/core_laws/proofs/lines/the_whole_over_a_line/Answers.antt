use Rattle.core_laws.proofs.CoreLines.{core-lined, core-line-settled}
use Rattle.core_laws.proofs.Wants.{line-wants}
use Rattle.core_laws.proofs.lines.the_whole_over_a_line.Goals as goal

pub returns-clause-idle : goal.returns-clause-idle
returns-clause-idle c run whole core place p here job first at old port rooted =
    line-wants run whole core place p here job first at old port rooted

pub returns-clause-quiet : goal.returns-clause-quiet
returns-clause-quiet c run fair whole core place p ls n stands room job at old new failed words shifted leaves rooms =
    core-lined run fair whole core place p ls n stands room job at old new failed words shifted leaves rooms

pub returns-clause-settled : goal.returns-clause-settled
returns-clause-settled c run fair whole core place p ls n stands room job at old new failed words shifted err decides unsettled rooms =
    core-line-settled run fair whole core place p ls n stands room job at old new failed words shifted err decides unsettled rooms

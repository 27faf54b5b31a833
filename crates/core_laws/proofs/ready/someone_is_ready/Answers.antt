use Rattle.core_laws.proofs.Ended.{finished-asks}
use Rattle.core_laws.proofs.Opens.{none-ready}
use Rattle.core_laws.proofs.Stuck.{held-up-stuck}
use Rattle.core_laws.proofs.ready.someone_is_ready.Goals as goal

pub returns-clause-none : goal.returns-clause-none
returns-clause-none c run whole core all = none-ready run whole core all

pub returns-clause-finished : goal.returns-clause-finished
returns-clause-finished c run whole core place p here none = finished-asks run whole core place p here none

pub returns-clause-stuck : goal.returns-clause-stuck
returns-clause-stuck c run whole core tell place p here up = held-up-stuck run whole core tell place p here up

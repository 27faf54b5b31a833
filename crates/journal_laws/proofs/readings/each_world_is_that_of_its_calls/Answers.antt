use Rattle.journal_laws.proofs.past.Ports.{past-called}
use Rattle.journal_laws.proofs.readings.each_world_is_that_of_its_calls.Goals as goal

pub returns : goal.returns
returns c = λ b asks past r. past-called b asks past r

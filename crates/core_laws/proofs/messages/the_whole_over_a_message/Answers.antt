use Rattle.core_laws.proofs.CoreSteps.{core-message, core-settled}
use Rattle.core_laws.proofs.messages.the_whole_over_a_message.Goals as goal

pub returns-clause-quiet : goal.returns-clause-quiet
returns-clause-quiet c run fair whole core place p ls n stands room room_bytes job more next at old new bytes msg words
    sent gone leaves partway rooms rooms_bytes =
    core-message run fair whole core place p ls n stands room job more next at old new bytes msg words sent gone leaves
    partway rooms room_bytes rooms_bytes

pub returns-clause-settled : goal.returns-clause-settled
returns-clause-settled c run fair whole core place p ls n stands room room_bytes job more next at old new bytes msg words
    sent gone verdict decides unsettled reply decided fits rooms rooms_bytes =
    core-settled run fair whole core place p ls n stands room job more next at old new bytes msg words sent gone verdict
    decides unsettled reply decided fits rooms room_bytes rooms_bytes

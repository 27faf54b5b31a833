use Rattle.core_laws.proofs.Sent.{sent-leaves}
use Rattle.core_laws.proofs.messages.a_message_fits.Goals as goal

pub returns : goal.returns
returns c run whole core place p here job more next at old new bytes msg words sent =
    sent-leaves run whole core place p here job more next at old new bytes msg words sent

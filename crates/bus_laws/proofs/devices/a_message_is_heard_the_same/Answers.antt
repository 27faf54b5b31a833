use Rattle.bus_laws.proofs.device.Same.{message-alike}
use Rattle.bus_laws.proofs.devices.a_message_is_heard_the_same.Goals as goal

pub returns : goal.returns
returns c = message-alike

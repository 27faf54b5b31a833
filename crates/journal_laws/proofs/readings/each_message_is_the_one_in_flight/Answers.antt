use Rattle.journal_laws.proofs.past.Flight.{in-flight}
use Rattle.journal_laws.proofs.readings.each_message_is_the_one_in_flight.Goals as goal

pub returns : goal.returns
returns c = in-flight

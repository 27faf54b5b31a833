use Rattle.bus_lines.proofs.Cited.{not}
use Rattle.bus_lines.proofs.GetLemmas.{receive_is}
use Rattle.bus_lines.proofs.bus_lines.BusLinesByteLines.receive_byte.Goals as goal

pub returns-clause-bus : goal.returns-clause-bus
returns-clause-bus c tells =
    receive_is c.a_byte_that_is_read_is_one_event.ensures.lines c.self.inside.targets c.get-byte.new.self c.self.inside.wire c.nine.new.self
    c.args.self.now
    c.self.view_is c.args.ack (c.requires.stands tells) c.get-byte.result c.get-byte.ensures.byte c.get-byte.ensures.after
    (not c.args.ack) c.nine.ensures

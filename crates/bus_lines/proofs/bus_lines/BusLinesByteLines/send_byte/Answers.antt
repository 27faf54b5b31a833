use Rattle.bus_lines.proofs.Cited.{not}
use Rattle.bus_lines.proofs.PutLemmas.{send_is}
use Rattle.bus_lines.proofs.bus_lines.BusLinesByteLines.send_byte.Goals as goal

pub returns-clause-bus : goal.returns-clause-bus
returns-clause-bus c tells =
    send_is c.a_byte_that_is_put_is_one_event.ensures.lines c.self.inside.targets c.put-acked.new.self c.self.inside.wire c.nine.new.self
    c.args.self.now
    c.self.view_is c.args.byte c.ranges.byte.fits (c.requires.stands tells) c.put-acked.result c.put-acked.ensures.acked
    c.put-acked.ensures.after
    (not c.put-acked.result) c.nine.ensures

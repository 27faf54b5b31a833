use Rattle.bus_lines.proofs.EndsLemmas.{end_is}
use Rattle.bus_lines.proofs.bus_lines.BusLinesByteLines.stop.Goals as goal

pub returns-clause-bus : goal.returns-clause-bus
returns-clause-bus c tells =
    let law = c.a_stop_frees_the_lines.ensures in
    end_is c.self.inside.targets c.show_rise.new.self c.stop_condition.new.self c.self.inside.wire c.ended.new.self c.args.self.now
    c.self.view_is
    c.show_rise.ensures c.stop_condition.ensures c.ended.ensures law.written law.out (c.requires.stands tells)

use Rattle.bus_lines.proofs.EndsLemmas.{begin_is, came_begin}
use Rattle.bus_lines.proofs.bus_lines.BusLinesByteLines.start.Goals as goal

pub returns-clause-told : goal.returns-clause-told
returns-clause-told c tells =
    begin_is c.self.inside.targets c.show_rise.new.self c.start_condition.new.self c.self.inside.wire c.begun.new.self c.args.self.now
    c.self.view_is c.args.busy
    (c.requires.stands tells) c.show_rise.ensures c.start_condition.ensures c.begun.ensures

pub returns-clause-bus : goal.returns-clause-bus
returns-clause-bus c tells =
    let again = c.a_repeated_start_calls_all_that_is_joined.ensures in
    came_begin c.a_start_calls_all_that_is_joined.ensures again.written again.out c.args.self.now.rooted c.args.self.now.bus _ c.args.busy
    (c.requires.stands tells) (returns-clause-told c tells)

use Rattle.bus_lines.proofs.LinesLemmas.{pull_is}
use Rattle.bus_lines.proofs.bus_lines.BusLinesLines.pull.Goals as goal

pub returns-clause-bus : goal.returns-clause-bus
returns-clause-bus c tells =
    pull_is c.self.inside.targets c.self.inside.wire c.pull.new.self c.args.self.now c.change.new.self c.self.view_is c.args.scl c.args.sda
    c.clock_high-clock_was.result c.data_high-data_was.result c.clock_high-clock_was.ensures c.data_high-data_was.ensures c.pull.ensures
    c.change.ensures

use Rattle.bus_lines.proofs.LinesLemmas.{line_is}
use Rattle.bus_lines.proofs.bus_lines.BusLinesLines.line.Goals as goal

pub returns-clause-bus : goal.returns-clause-bus
returns-clause-bus c tells =
    line_is c.self.inside.targets c.set_line.new.self c.self.inside.wire c.args.self.now c.self.view_is c.args.mux c.args.level
    c.set_line.ensures

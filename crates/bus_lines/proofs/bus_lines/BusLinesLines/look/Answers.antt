use Rattle.bus_lines.proofs.Cited.{◌∙◌}
use Rattle.bus_lines.proofs.LinesLemmas.{look_low, look_high, level_is}
use Rattle.bus_lines.proofs.bus_lines.BusLinesLines.look.Goals as goal

pub returns-then-not-clock-clause-level : goal.returns-then-not-clock-clause-level
returns-then-not-clock-clause-level c tells = c.data_high-data.ensures ∙ level_is c.args.self.now.bus

pub returns-then-not-clock-clause-bus : goal.returns-then-not-clock-clause-bus
returns-then-not-clock-clause-bus c tells =
    look_low c.self.inside.targets c.self.inside.wire c.look.new.self c.args.self.now c.tick.new.self c.self.view_is
    c.clock_high-clock.result c.data_high-data.result c.clock_high-clock.ensures c.if-not-clock.true c.look.ensures c.tick.ensures

pub returns-else-not-clock-clause-level : goal.returns-else-not-clock-clause-level
returns-else-not-clock-clause-level c tells = c.data_high-data.ensures ∙ level_is c.args.self.now.bus

pub returns-else-not-clock-clause-bus : goal.returns-else-not-clock-clause-bus
returns-else-not-clock-clause-bus c tells =
    look_high c.self.inside.targets c.self.inside.wire c.look.new.self c.args.self.now c.args.self.now c.self.view_is
    c.clock_high-clock.result c.data_high-data.result c.clock_high-clock.ensures c.if-not-clock.false c.look.ensures

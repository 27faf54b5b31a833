use Rattle.bus_lines.proofs.LinesLemmas.{apart_is}
use Rattle.bus_lines.proofs.bus_lines.BusLines.apart.Goals as goal

pub returns : goal.returns
returns c = apart_is c.self.inside.targets c.self.inside.wire c.args.self c.self.view_is c.apart.result c.apart.ensures

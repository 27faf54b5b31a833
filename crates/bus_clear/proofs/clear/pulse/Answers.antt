use Rattle.bus_clear.proofs.Cited.{the_table}
use Rattle.bus_clear.proofs.PullLemmas.{pulse_is}
use Rattle.bus_clear.proofs.clear.pulse.Goals as goal

pub returns-clause-bus : goal.returns-clause-bus
returns-clause-bus g c tells =
    let bus = g.L.Lines.bus in
    let board = g.L.Lines.board in
    pulse_is the_table (board c.args.lines.now) (board c.pull.new.self) (bus c.args.lines.now) (bus c.pull.new.self)
    (bus c.release.new.lines)
    c.pull.ensures.board (c.pull.ensures.bus tells) c.release.result (c.release.ensures.bus tells 0)

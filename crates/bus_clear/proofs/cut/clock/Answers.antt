use Rattle.bus_clear.proofs.Cited.{the_table}
use Rattle.bus_clear.proofs.PullLemmas.{clock_is}
use Rattle.bus_clear.proofs.cut.clock.Goals as goal

pub returns-clause-bus : goal.returns-clause-bus
returns-clause-bus g c tells =
    let bus = g.L.Lines.bus in
    let board = g.L.Lines.board in
    clock_is the_table (board c.args.lines.now) (board c.rise.new.lines) (bus c.args.lines.now) (bus c.rise.new.lines) (bus c.pull.new.self)
    c.rise.ensures.board c.args.high (c.rise.ensures.bus tells) (c.pull.ensures.bus tells)

use Rattle.bus_clear.proofs.Cited.{the_table}
use Rattle.bus_clear.proofs.PullLemmas.{let_up, let_low}
use Rattle.bus_clear.proofs.clear.clear_bus.Goals as goal

pub returns-in-Ok-clause-bus : goal.returns-in-Ok-clause-bus
returns-in-Ok-clause-bus g c tells =
    let bus = g.L.Lines.bus in
    let board = g.L.Lines.board in
    let_up the_table (board c.args.lines.now) (board c.release.new.lines) (bus c.args.lines.now) (bus c.release.new.lines)
    (bus c.make_pulses.new.lines)
    c.in-Ok.ensures.board c.in-Ok.level c.make_pulses.result (c.in-Ok.ensures.bus tells 0) (c.make_pulses.ensures.bus tells)

pub returns-in-Err-clause-bus : goal.returns-in-Err-clause-bus
returns-in-Err-clause-bus g c tells =
    let bus = g.L.Lines.bus in
    let board = g.L.Lines.board in
    let_low the_table (board c.args.lines.now) (board c.release.new.lines) (bus c.args.lines.now) (bus c.release.new.lines)
    (bus c.release.new.lines)
    c.in-Err.ensures.board (c.in-Err.ensures.bus tells 0)

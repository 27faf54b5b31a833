use Rattle.bus_clear.proofs.Cited.{◌∙◌, ap, arith, ◌-◌, ◌+◌, ◌*◌, cut_pulls, the_table, mask_at}
use Rattle.bus_clear.proofs.PullLemmas.{clock_on, clocks_end, cut_is}
use Rattle.bus_clear.proofs.cut.cut_read.Goals as goal

pub loop-number-preserved : goal.loop-number-preserved
loop-number-preserved g c =
    let bus = g.L.Lines.bus in
    let board = g.L.Lines.board in
    let i = c.loop-number.invariant in
    record {
      board = c.clock.ensures.board ∙ i.board;
      bus = λ tells.
          clock_on the_table (board c.args.lines.now) (board c.loop-number.lines) (bus c.loop-number.lines) (bus c.clock.new.lines)
          (2 * c.get.result + 1) c.loop-number.number c.args.cut c.loop-number-test.true i.board c.is_high.result c.is_high.ensures
          (c.clock.ensures.bus tells)
          ∙ i.bus tells;
      some = omega arith;
      few = omega (arith, c.loop-number-test.true);
    }

pub returns-clause-bus : goal.returns-clause-bus
returns-clause-bus g c tells =
    let bus = g.L.Lines.bus in
    let board = g.L.Lines.board in
    let i = c.loop-number.invariant in
    ap (λ a. bus c.pull-3.new.self) c.get.ensures.value
    ∙ (cut_is the_table (board c.args.lines.now) (board c.loop-number.lines) (board c.rise.new.lines) (bus c.args.lines.now)
    (bus c.loop-number.lines) (bus c.rise.new.lines) (bus c.pull-3.new.self)
    (2 * c.get.result + 1) c.args.cut i.board (c.rise.ensures.board ∙ i.board)
    (clocks_end the_table (board c.args.lines.now) (2 * c.get.result + 1) c.loop-number.number (c.args.cut - c.loop-number.number)
    (bus c.loop-number.lines) (omega (arith, c.loop-number-test.false)) ∙ i.bus tells)
    c.is_high-2.result c.is_high-2.ensures
    (c.rise.ensures.bus tells) (c.pull-3.ensures.bus tells)
    ∙ ap (λ a. cut_pulls the_table (mask_at (board c.args.lines.now)) (2 * a + 1) c.args.cut (bus c.args.lines.now)) c.get.ensures.value)

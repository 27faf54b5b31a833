use Rattle.bus_clear.proofs.Cited.{◌∙◌, sym, ap, arith, ◌-◌, MOST_PULSES, clear_from, the_table, mask_at, counted}
use Rattle.bus_clear.proofs.PullLemmas.{none_left, pulse_up, pulse_low, freed, more_one}
use Rattle.bus_clear.proofs.clear.make_pulses.Goals as goal

pub returns-then-pulses-eq-MOST_PULSES-clause-bus : goal.returns-then-pulses-eq-MOST_PULSES-clause-bus
returns-then-pulses-eq-MOST_PULSES-clause-bus g c tells =
    let bus = g.L.Lines.bus in
    let k = g.L.Lines.board c.args.lines.now in
    let i = c.loop-high.invariant in
    none_left the_table k (MOST_PULSES - c.loop-high.pulses) c.loop-high.pulses (bus c.loop-high.lines)
    (omega (arith, c.if-pulses-eq-MOST_PULSES.true))
    ∙ (ap (λ h. clear_from the_table (mask_at k) h (MOST_PULSES - c.loop-high.pulses) c.loop-high.pulses (bus c.loop-high.lines))
    (sym c.loop-high-test.true)
    ∙ i.bus tells)

pub returns-in-Err-clause-bus : goal.returns-in-Err-clause-bus
returns-in-Err-clause-bus g c tells =
    let bus = g.L.Lines.bus in
    let board = g.L.Lines.board in
    let k = board c.args.lines.now in
    let i = c.loop-high.invariant in
    pulse_low the_table k (board c.loop-high.lines) c.loop-high.pulses (bus c.loop-high.lines) (bus c.pulse.new.lines) i.board
    i.few c.if-pulses-eq-MOST_PULSES.false (c.in-Err.ensures.bus tells)
    ∙ (ap (λ h. clear_from the_table (mask_at k) h (MOST_PULSES - c.loop-high.pulses) c.loop-high.pulses (bus c.loop-high.lines))
    (sym c.loop-high-test.true)
    ∙ i.bus tells)

pub loop-high-preserved : goal.loop-high-preserved
loop-high-preserved g c =
    let bus = g.L.Lines.bus in
    let board = g.L.Lines.board in
    let k = board c.args.lines.now in
    let i = c.loop-high.invariant in
    record {
      board = c.in-Ok.ensures.board ∙ i.board;
      bus = λ tells.
          pulse_up the_table k (board c.loop-high.lines) c.loop-high.pulses (bus c.loop-high.lines)
          (bus c.pulse.new.lines) i.board c.in-Ok.level
          i.few c.if-pulses-eq-MOST_PULSES.false (c.in-Ok.ensures.bus tells)
          ∙ (ap (λ h. clear_from the_table (mask_at k) h (MOST_PULSES - c.loop-high.pulses) c.loop-high.pulses (bus c.loop-high.lines))
          (sym c.loop-high-test.true)
          ∙ i.bus tells);
      let_go = c.in-Ok.ensures.let_go;
      seen = c.in-Ok.ensures.seen;
      pulses = c.in-Ok.ensures.pulses ∙ (ap counted i.pulses ∙ more_one c.loop-high.pulses (g.L.Lines.wire c.args.lines.now).pulses);
      stuck = c.in-Ok.ensures.looks.stuck (omega arith) ∙ i.stuck;
      few = omega (arith, i.few, c.if-pulses-eq-MOST_PULSES.false);
    }

pub returns-clause-bus : goal.returns-clause-bus
returns-clause-bus g c tells =
    let bus = g.L.Lines.bus in
    let board = g.L.Lines.board in
    let k = board c.args.lines.now in
    let i = c.loop-high.invariant in
    freed the_table k (board c.loop-high.lines) c.loop-high.pulses (bus c.loop-high.lines) (bus c.start_and_stop.new.lines) i.board
    (MOST_PULSES - c.loop-high.pulses) (c.start_and_stop.ensures.bus tells)
    ∙ (ap (λ h. clear_from the_table (mask_at k) h (MOST_PULSES - c.loop-high.pulses) c.loop-high.pulses (bus c.loop-high.lines))
    (sym c.loop-high-test.false)
    ∙ i.bus tells)

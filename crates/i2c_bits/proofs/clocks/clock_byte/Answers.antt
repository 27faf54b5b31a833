use Rattle.std.proofs.Common.{◌∙◌, ◌+◌, ◌*◌, ◌-◌, ◌^◌, ◌<◌, sym, ap, subst, arith, ℕ, cond}
use Rattle.wire_spec.specs.Wires.{bits}
use Rattle.wire_spec.specs.Bus.{bit_steps}
use Rattle.i2c_bits.specs.Wiring.{the_table, mask_at}
use Rattle.i2c_bits.proofs.Shifts.{steps_pop, steps_low, steps_end, fits_next, byte_bool, bool_small}
use Rattle.i2c_bits.proofs.clocks.clock_byte.Goals as goal

pub loop-left-preserved : goal.loop-left-preserved
loop-left-preserved g c =
    let bus = g.L.Lines.bus in
    let board = g.L.Lines.board in
    let i = c.loop-left.invariant in
    let k = board c.args.lines.now in
    let read = c.loop-left.read in
    let left = c.loop-left.left in
    let digit = c.from.ensures ∙ byte_bool c.in-Ok.level in
    record {
      board = c.in-Ok.ensures.board ∙ i.board;
      bus = λ tells.
          ap (λ d. bit_steps the_table (mask_at k) (2 * read + d) (bits (left - 1) c.args.byte) (bus c.clock_bit.new.lines)) digit
          ∙ (steps_pop the_table k (board c.loop-left.lines) read c.args.byte left (bus c.loop-left.lines) i.board c.loop-left-test.true
          c.in-Ok.level (bus c.clock_bit.new.lines) (c.in-Ok.ensures.bus tells read)
          ∙ i.bus tells);
      few = omega arith;
      fits = subst (λ (d : ℕ). 2 * read + d < 2 ^ (8 - (left - 1))) (sym digit)
          (fits_next read left (cond c.in-Ok.level 1 0) c.loop-left-test.true i.few (bool_small c.in-Ok.level) i.fits);
      slow = c.in-Ok.ensures.looks ∙ i.slow;
    }

pub returns-in-Err-clause-bus : goal.returns-in-Err-clause-bus
returns-in-Err-clause-bus g c tells =
    let bus = g.L.Lines.bus in
    let board = g.L.Lines.board in
    let i = c.loop-left.invariant in
    steps_low the_table (board c.args.lines.now) (board c.loop-left.lines) c.loop-left.read c.args.byte c.loop-left.left
    (bus c.loop-left.lines) i.board c.loop-left-test.true (bus c.clock_bit.new.lines) (c.in-Err.ensures.bus tells c.loop-left.read)
    ∙ i.bus tells

pub returns-clause-bus : goal.returns-clause-bus
returns-clause-bus g c tells =
    steps_end the_table (g.L.Lines.board c.args.lines.now) c.loop-left.read c.args.byte c.loop-left.left (g.L.Lines.bus c.loop-left.lines)
    c.loop-left-test.false
    ∙ c.loop-left.invariant.bus tells

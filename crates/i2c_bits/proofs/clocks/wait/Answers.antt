use Rattle.std.proofs.Common.{◌∙◌, ℕ, ◌-◌, ◌+◌, ◌≡◌, ap, sym, subst, arith}
use Rattle.i2c_bits.specs.Wiring.{the_table}
use Rattle.i2c_bits.proofs.Looks.{Counted, found, missed, ended, counted_next}
use Rattle.i2c_bits.proofs.clocks.wait.Goals as goal

pub returns-then-scl-clause-bus : goal.returns-then-scl-clause-bus
returns-then-scl-clause-bus g c tells v =
    let look = c.look-scl in
    found the_table v c.loop-left.left (g.L.Lines.bus c.loop-left.lines) (g.L.Lines.bus look.new.self) look.result.0 look.result.1
    c.loop-left-test.true c.if-scl.true (look.ensures.clock tells) (look.ensures.level tells) (look.ensures.bus tells)
    ∙ c.loop-left.invariant.bus tells v

pub returns-clause-bus : goal.returns-clause-bus
returns-clause-bus g c tells v =
    ended the_table v c.loop-left.left (g.L.Lines.bus c.loop-left.lines) c.loop-left-test.false ∙ c.loop-left.invariant.bus tells v

pub loop-left-preserved : goal.loop-left-preserved
loop-left-preserved g c =
    let look = c.look-scl in
    let i = c.loop-left.invariant in
    let wire = g.L.Lines.wire in
    let made : ℕ = c.args.looks - c.loop-left.left in
    let next : c.args.looks - (c.loop-left.left - 1) ≡ made + 1 = omega (arith, i.few, c.loop-left-test.true) in
    record {
      board = look.ensures.board ∙ i.board;
      bus = λ tells v.
          missed the_table v c.loop-left.left (g.L.Lines.bus c.loop-left.lines) (g.L.Lines.bus look.new.self) look.result.0
          c.loop-left-test.true c.if-scl.false (look.ensures.clock tells) (look.ensures.bus tells)
          ∙ i.bus tells v;
      few = omega (arith, i.few);
      scl = ap (λ x. x.scl) look.ensures.wire ∙ i.scl;
      sda = ap (λ x. x.sda) look.ensures.wire ∙ i.sda;
      pulses = ap (λ x. x.pulses) look.ensures.wire ∙ i.pulses;
      counted = subst (λ (n : ℕ). Counted n (wire c.args.lines.now) (wire look.new.self)) (sym next)
          (counted_next (wire c.args.lines.now) (wire c.loop-left.lines) (wire look.new.self) made look.result.0 look.result.1
          look.ensures.wire c.if-scl.false (omega (arith, i.few, c.loop-left-test.true, c.ranges.looks.fits)) i.counted);
    }

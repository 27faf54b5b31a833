use Rattle.std.proofs.Common.{◌≡◌, ◌+◌, ◌*◌, ◌++◌, ℕ, ap, ◌∙◌, arith, sym}
use Rattle.i2c_gen.specs.Draws.{number_behind}
use Rattle.i2c_gen.specs.Scripts.{line_of}
use Rattle.i2c_gen.proofs.TextLemmas.{flat_map-range_more}
use Rattle.i2c_gen.proofs.script.made_text.Goals as goal

pub loop-preserved : goal.loop-preserved
loop-preserved c =
    let p = c.args.plan.now in
    let so_far = c.loop.invariant in
    let at = λ (caller : ℕ) (h : c.args.draws.now.x ≡ number_behind p.seed (5 * (caller * p.lines))).
    c.in_ok-push_line.ensures (caller * p.lines + c.loop.counter) (so_far.behind caller h) in
    record {
      end = c.loop.invariant.end;
      within = omega arith;
      behind = λ caller h.
          let next : 5 * (caller * p.lines + c.loop.counter + 1) ≡ 5 * (caller * p.lines + (c.loop.counter + 1)) = omega arith in
          (at caller h).0 ∙ ap (number_behind p.seed) next;
      text = λ caller h.
          (at caller h).1 ∙ ap (λ x. x ++ line_of p (caller * p.lines + c.loop.counter)) (so_far.text caller h)
          ∙ sym (flat_map-range_more (line_of p) (caller * p.lines) c.loop.counter);
    }

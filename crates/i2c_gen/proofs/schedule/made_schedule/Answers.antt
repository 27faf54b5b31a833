use Rattle.std.proofs.Common.{◌≡◌, ◌+◌, ◌*◌, ◌<◌, ◌++◌, [], ◌∷◌, sym, ap, ◌∙◌, subst, arith}
use Rattle.std.specs.List.{All}
use Rattle.std.proofs.lemmas.Grind.{common_steps}
use Rattle.std.proofs.lemmas.List.Elements.{All-push}
use Rattle.i2c_base.specs.Limits.{MOST_CALLERS}
use Rattle.i2c_gen.specs.Draws.{behind, drawn, number_behind}
use Rattle.i2c_gen.specs.Scripts.{lines_in}
use Rattle.i2c_gen.proofs.DrawLemmas.{number_behind_next, draws_more}
use Rattle.i2c_gen.proofs.schedule.made_schedule.Goals as goal

pub loop-preserved : goal.loop-preserved
loop-preserved c =
    let seed = c.args.plan.now.seed in
    let first = 5 * lines_in c.args.plan.now in
    let n = c.loop.counter in
    let x = c.loop.draws.x in
    let word = c.draw.result in
    let all = c.loop.invariant in
    let items : c.push_reserved.new.self.items ≡ c.loop.words.items ++ word ∷ [] = c.push_reserved.ensures.items in
    let is : word ≡ drawn (behind x) MOST_CALLERS = c.draw.ensures.value ∙ ap (drawn (behind x)) c.from-in-loop.ensures in
    let next : first + n + 1 ≡ first + (n + 1) = omega arith in
    record {
      count = grind (arith, common_steps);
      room = grind (arith, common_steps);
      behind = c.draw.ensures.behind ∙ number_behind_next seed (first + n) x all.behind ∙ ap (number_behind seed) next;
      so_far = items ∙ ap (λ ws. ws ++ word ∷ []) all.so_far ∙ sym (draws_more seed first n x MOST_CALLERS word all.behind is);
      named =
          subst (All (λ w. w < MOST_CALLERS)) (sym items)
          (All-push (λ w. w < MOST_CALLERS) c.loop.words.items word all.named
          (omega (arith, c.draw.ensures.below, c.from-in-loop.ensures)));
    }

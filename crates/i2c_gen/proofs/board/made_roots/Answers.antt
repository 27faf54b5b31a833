use Rattle.std.proofs.Common.{false, ap, sym, ◌∙◌, ◌++◌, [], ◌∷◌, arith}
use Rattle.std.proofs.lemmas.Grind.{common_steps}
use Rattle.i2c_gen.proofs.BoardLemmas.{roots_more}
use Rattle.i2c_gen.proofs.board.made_roots.Goals as goal

pub loop-preserved : goal.loop-preserved
loop-preserved c = record {
  count = grind (arith, common_steps);
  room = grind (arith, common_steps);
  so_far =
      c.push_reserved.ensures.items ∙ ap (λ xs. xs ++ (record { smbus_only = false }) ∷ []) c.loop.invariant.so_far
      ∙ sym (roots_more c.loop.counter);
}

use Rattle.std.proofs.Common.{arith}
use Rattle.std.proofs.lemmas.Grind.{common_steps}
use Rattle.i2c_gen.proofs.BoardLemmas.{switches_more}
use Rattle.i2c_gen.proofs.board.made_muxes.Goals as goal

pub loop-root-preserved : goal.loop-root-preserved
loop-root-preserved c = record {
  count = grind (arith, common_steps);
  room = grind (arith, common_steps);
  so_far = grind (arith, common_steps, switches_more c.loop-root.root);
}

use Rattle.std.proofs.Common.{arith}
use Rattle.std.proofs.lemmas.Grind.{common_steps}
use Rattle.i2c_gen.proofs.BoardLemmas.{devices_more}
use Rattle.i2c_gen.proofs.board.made_devices.Goals as goal

pub loop-k-preserved : goal.loop-k-preserved
loop-k-preserved c = record {
  room = grind (arith, common_steps);
  count = grind (arith, common_steps);
  so_far = grind (arith, common_steps, devices_more c.args.roots c.loop-k.k);
}

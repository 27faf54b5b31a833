use Rattle.i2c_top.proofs.Cited.{◌≡◌, ◌^◌, ◌≤◌, take, sum_by}
use Rattle.std.proofs.Common.{◌*◌}
use Rattle.i2c_top.proofs.CostLemmas.{cost_of_opened}
use Rattle.i2c_top.proofs.cost.cost_of.Given as goal

abbrev pub invariant-loop-script : goal.invariant-loop-script
invariant-loop-script l =
    record {
      sum : l.cost ≡ sum_by cost_of_opened (take l.script-index l.scripts);
      small : l.cost ≤ 2 ^ 53 * l.script-index;
    }

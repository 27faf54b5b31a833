use Rattle.i2c_top.proofs.Cited.{arith}
use Rattle.i2c_top.proofs.Numbering.{beside-all, beside-count, beside-more}
use Rattle.i2c_top.proofs.callers.masks_of.Goals as goal

pub returns : goal.returns
returns c = beside-all c.loop-script.invariant c.loop-script-test.false

pub push-requires : goal.push-requires
push-requires c = (omega arith, omega (arith, c.requires, beside-count c.loop-script.invariant c.loop-script-test.true))

pub loop-script-preserved : goal.loop-script-preserved
loop-script-preserved c =
    beside-more c.loop-script.invariant c.roots.result c.script-item.is c.loop-script-test.true c.push.ensures.items c.roots.ensures

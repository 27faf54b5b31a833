use Rattle.std.proofs.Common.{sym}
use Rattle.i2c_lab.proofs.NumberLemmas.{unread-none}
use Rattle.i2c_lab.proofs.number.number_in.Goals as goal

pub returns-in-Err : goal.returns-in-Err
returns-in-Err c = sym (unread-none 0 _ c.args.digits.now c.in-Err.ensures.cases.0)

use Rattle.i2c_board.proofs.Cited.{◌≡◌, sum_by, arith, rules, bytes_of}
use Rattle.i2c_spec.proofs.CostLemmas.{bytes_few}
use Rattle.i2c_board.proofs.cost.steps_of.Goals as goal

pub overflow_add-result : goal.overflow_add-result
overflow_add-result c =
    let same : c.sum-bytes.result ≡ sum_by (bytes_of c.args.limit) c.args.msgs.now = search rules in
    omega (arith, same, bytes_few c.args.limit c.args.msgs.now (omega arith) c.requires.count c.requires.each)

pub returns-clause-small : goal.returns-clause-small
returns-clause-small c =
    let same : c.sum-bytes.result ≡ sum_by (bytes_of c.args.limit) c.args.msgs.now = search rules in
    omega (arith, same, bytes_few c.args.limit c.args.msgs.now (omega arith) c.requires.count c.requires.each)

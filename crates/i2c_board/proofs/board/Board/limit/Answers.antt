use Rattle.i2c_board.proofs.Cited.{◌≡◌, arith, rules, block_limit}
use Rattle.i2c_spec.proofs.BlockLemmas.{is_block_limit}
use Rattle.i2c_board.proofs.board.Board.limit.Goals as goal

pub returns-clause-some : goal.returns-clause-some
returns-clause-some c =
    let is : c.unwrap_or.result ≡ block_limit c.args.self.now = search rules in
    omega (arith, is, (is_block_limit c.args.self.now).some)

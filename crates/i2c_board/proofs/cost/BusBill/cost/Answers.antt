use Rattle.i2c_board.proofs.Cited.{◌≡◌, ap, ◌+◌, List, length, sum_by, ◌∙◌, bytes_of, block_limit}
use Rattle.i2c_base.specs.declared.transfer.Msg.{Msg}
use Rattle.i2c_board.proofs.BillLemmas.{cost_there}
use Rattle.i2c_board.proofs.cost.BusBill.cost.Goals as goal

pub returns-in-Some-clause-value : goal.returns-in-Some-clause-value
returns-in-Some-clause-value c =
    let limit : c.limit.result ≡ block_limit c.args.board.now = cc (c.limit.ensures.value, c.board.ensures.value) in
    ap (λ n. n + c.steps_of.result) c.from.ensures
    ∙ ap (λ n. c.args.self.now.beside + n) (c.steps_of.ensures.value
    ∙ ap (λ (ms : List Msg). length ms + sum_by (bytes_of c.limit.result) ms) c.msgs.ensures.value
    ∙ ap (λ n. length c.args.transfer.now.msgs + sum_by (bytes_of n) c.args.transfer.now.msgs) limit)
    ∙ cost_there c.args.board.now c.args.self.now c.args.transfer.now _ c.requires.bill c.requires.bus c.in-Some.is

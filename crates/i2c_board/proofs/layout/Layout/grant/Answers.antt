use Rattle.i2c_board.proofs.Cited.{sym, ap, ◌∙◌, cond, Busy, board_of, device_grant}
use Rattle.i2c_board.proofs.GrantLemmas.{grant-parts}
use Rattle.i2c_board.proofs.layout.Layout.grant.Goals as goal

pub returns-then-meets_chip : goal.returns-then-meets_chip
returns-then-meets_chip c =
    let b = board_of c.args.self.now in
    sym (grant-parts b c.args.seg c.args.addr c.args.force
    ∙ ap (λ t. cond t Busy (device_grant b b.devices c.args.seg c.args.addr c.args.force)) (sym c.meets_chip.ensures
    ∙ c.if-meets_chip.true))

pub returns : goal.returns
returns c =
    let b = board_of c.args.self.now in
    c.device_grant.ensures ∙ sym (grant-parts b c.args.seg c.args.addr c.args.force
    ∙ ap (λ t. cond t Busy (device_grant b b.devices c.args.seg c.args.addr c.args.force)) (sym c.meets_chip.ensures
    ∙ c.if-meets_chip.false))

use Rattle.i2c_top.proofs.Cited.{sym, ap, ◌∙◌, Some, IfOk-weaker}
use Rattle.std.proofs.lemmas.Result.{IfErr-weaker}
use Rattle.i2c_top.proofs.FileLemmas.{accepted_in, board_rejected}
use Rattle.i2c_top.proofs.files.read_accepted.Goals as goal

pub returns-clause-spelled : goal.returns-clause-spelled
returns-clause-spelled g c =
    IfOk-weaker c.accepted_of.result _ _ (λ b h. record { text = c.as_slice.result.now; is_accepted = h }) c.accepted_of.ensures.board

pub returns-clause-board : goal.returns-clause-board
returns-clause-board g c =
    λ t. IfOk-weaker c.accepted_of.result _ _
    (λ b h. accepted_in _ _ _ b (c.in_ok-text.ensures.bytes t ∙ ap (λ x. Some x) (sym c.as_slice.ensures.value)) h)
    c.accepted_of.ensures.board

pub returns-clause-refused : goal.returns-clause-refused
returns-clause-refused g c =
    IfErr-weaker c.accepted_of.result _ _
    (λ e h. board_rejected _ _ _ _ _ _ e (λ t. c.in_ok-text.ensures.bytes t ∙ ap (λ x. Some x) (sym c.as_slice.ensures.value)) h)
    c.accepted_of.ensures.refused

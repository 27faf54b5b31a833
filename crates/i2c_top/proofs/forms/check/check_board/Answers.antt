use Rattle.i2c_top.proofs.Cited.{ap, ◌∙◌, accepted_text}
use Rattle.i2c_top.proofs.CheckLemmas.{check_done, check_refused}
use Rattle.i2c_top.proofs.FileLemmas.{passed_on}
use Rattle.i2c_top.proofs.forms.check.check_board.Goals as goal

pub returns-clause-done : goal.returns-clause-done
returns-clause-done g c =
    λ rig. check_done _ _ _ rig c.read_accepted.ensures.kept c.in_ok-accepted.accepted _ c.in_ok-accepted.ensures.board
    c.in_ok-accepted.ensures.spelled
    (c.in_ok-accepted_line.ensures ∙ ap accepted_text c.board.ensures.value)

pub returns-in_err-accepted-clause-refused : goal.returns-in_err-accepted-clause-refused
returns-in_err-accepted-clause-refused g c =
    passed_on c.from_residual.result c.in_err-accepted.field-0.0 _ c.from_residual.ensures.1
    (λ rig. check_refused _ _ _ rig c.read_accepted.ensures.kept _ c.in_err-accepted.ensures.refused)

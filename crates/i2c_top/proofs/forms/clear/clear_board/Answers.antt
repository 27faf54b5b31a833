use Rattle.i2c_top.proofs.Cited.{◌∙◌}
use Rattle.i2c_top.proofs.ClearLemmas.{clear_done, clear_refused, no_root_refused, lines_told}
use Rattle.i2c_top.proofs.FileLemmas.{passed_on}
use Rattle.i2c_top.proofs.forms.clear.clear_board.Goals as goal

pub returns-clause-done : goal.returns-clause-done
returns-clause-done g c =
    λ rig. clear_done _ _ _ _ rig c.read_accepted.ensures.kept c.in_ok-accepted.accepted _ c.in_ok-accepted.ensures.board
    c.in_ok-accepted.ensures.spelled c.in_ok-root.ensures.root.1
    (c.in_ok-lines_of.ensures
    ∙ lines_told c.in_ok-accepted.accepted c.args.at.now c.in_ok-root.root c.in_ok-cleared.cleared.high c.in_ok-cleared.cleared.pulses
    c.in_ok-cleared.cleared.read c.in_ok-root.ensures.root.0 c.in_ok-cleared.ensures)

pub returns-in_err-root-clause-refused : goal.returns-in_err-root-clause-refused
returns-in_err-root-clause-refused g c =
    passed_on c.from_residual-in_err-root.result c.in_err-root.field-0.0 _ c.from_residual-in_err-root.ensures.1
    (λ rig. no_root_refused _ _ _ _ rig c.read_accepted.ensures.kept c.in_ok-accepted.accepted _ c.in_ok-accepted.ensures.board
    c.in_err-root.ensures.refused)

pub returns-in_err-accepted-clause-refused : goal.returns-in_err-accepted-clause-refused
returns-in_err-accepted-clause-refused g c =
    passed_on c.from_residual.result c.in_err-accepted.field-0.0 _ c.from_residual.ensures.1
    (λ rig. clear_refused _ _ _ _ rig c.read_accepted.ensures.kept c.in_err-accepted.field-0.0 c.in_err-accepted.ensures.refused)

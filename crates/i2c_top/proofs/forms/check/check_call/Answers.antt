use Rattle.i2c_top.proofs.Cited.{check_form}
use Rattle.i2c_top.proofs.CheckLemmas.{check_decides, ended_checked, no_rig}
use Rattle.i2c_top.proofs.EndingLemmas.{ended_as, for_ok, for_err}
use Rattle.i2c_top.proofs.forms.check.check_call.Goals as goal

pub returns-clause-ended : goal.returns-clause-ended
returns-clause-ended g c =
    λ rig. ended_as check_form c.check_board-outcome.result c.word_at.ensures (check_decides c.word_at.result.now) c.requires.words
    (for_ok c.check_board-outcome.result _ c.check_board-outcome.ensures.done rig)
    (for_err c.check_board-outcome.result _ c.check_board-outcome.ensures.refused rig)
    c.write_outcome.ensures.done c.write_outcome.ensures.refused

pub returns-clause-success : goal.returns-clause-success
returns-clause-success g c = ended_checked _ _ _ c.write_outcome.result (returns-clause-ended g c no_rig)

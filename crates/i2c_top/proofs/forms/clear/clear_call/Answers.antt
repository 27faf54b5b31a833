use Rattle.i2c_top.proofs.Cited.{clear_form}
use Rattle.i2c_top.proofs.ClearLemmas.{clear_decides, ended_cleared}
use Rattle.i2c_top.proofs.CheckLemmas.{no_rig}
use Rattle.i2c_top.proofs.EndingLemmas.{ended_as, for_ok, for_err}
use Rattle.i2c_top.proofs.forms.clear.clear_call.Goals as goal

pub returns-clause-ended : goal.returns-clause-ended
returns-clause-ended g c =
    λ rig. ended_as (λ name. clear_form name c.args.at.now) c.clear_board-outcome.result c.word_at.ensures
    (clear_decides c.word_at.result.now c.args.at.now) c.requires.words
    (for_ok c.clear_board-outcome.result _ c.clear_board-outcome.ensures.done rig)
    (for_err c.clear_board-outcome.result _ c.clear_board-outcome.ensures.refused rig)
    c.write_outcome.ensures.done c.write_outcome.ensures.refused

pub returns-clause-success : goal.returns-clause-success
returns-clause-success g c = ended_cleared _ _ _ _ c.write_outcome.result (returns-clause-ended g c no_rig)

use Rattle.i2c_top.proofs.Cited.{names_told, replay_form}
use Rattle.i2c_top.proofs.EndingLemmas.{ended_as}
use Rattle.i2c_top.proofs.ReplayCauses.{replay_decides}
use Rattle.i2c_top.proofs.ReplayLemmas.{ended_replayed}
use Rattle.i2c_top.proofs.forms.replay.run_call.Goals as goal

pub returns-clause-ended : goal.returns-clause-ended
returns-clause-ended g c =
    ended_as replay_form c.run-outcome.result c.of_run-names.ensures.value (replay_decides (names_told c.of_run-names.result))
    c.requires.words c.run-outcome.ensures.done c.run-outcome.ensures.refused c.write_outcome.ensures.done c.write_outcome.ensures.refused

pub returns-clause-success : goal.returns-clause-success
returns-clause-success g c = ended_replayed _ _ _ c.write_outcome.result (returns-clause-ended g c)

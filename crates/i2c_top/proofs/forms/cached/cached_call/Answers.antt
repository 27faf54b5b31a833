use Rattle.i2c_top.proofs.Cited.{cached_form, names_told}
use Rattle.i2c_top.proofs.CachedLemmas.{ended_cached}
use Rattle.i2c_top.proofs.EndingLemmas.{ended_as}
use Rattle.i2c_top.proofs.ReplayCauses.{replay_decides}
use Rattle.i2c_top.proofs.forms.cached.cached_call.Goals as goal

pub returns-clause-ended : goal.returns-clause-ended
returns-clause-ended g c =
    ended_as cached_form c.cached-outcome.result c.of_cached-names.ensures.value (replay_decides (names_told c.of_cached-names.result))
    c.requires.words c.cached-outcome.ensures.done c.cached-outcome.ensures.refused c.write_outcome.ensures.done
    c.write_outcome.ensures.refused

pub returns-clause-cached : goal.returns-clause-cached
returns-clause-cached g c = ended_cached _ _ _ c.write_outcome.result (returns-clause-ended g c)

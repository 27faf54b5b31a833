use Rattle.i2c_top.specs.forms.Extras.{extra_told}
use Rattle.i2c_top.proofs.EndingLemmas.{ended_as}
use Rattle.i2c_top.proofs.ExtraCauses.{extra_decides}
use Rattle.i2c_lab.specs.Waves.{wave_row, waves_form}
use Rattle.i2c_lab.proofs.RowLaws.{wave-row}
use Rattle.i2c_lab.proofs.waves.waves_call.Goals as goal

pub returns-clause-ended : goal.returns-clause-ended
returns-clause-ended g c =
    ended_as waves_form c.waves-outcome.result c.of-names.ensures.value (extra_decides wave_row wave-row (extra_told c.of-names.result))
    c.requires.words c.waves-outcome.ensures.done c.waves-outcome.ensures.refused c.write_outcome.ensures.done c.write_outcome.ensures.refused

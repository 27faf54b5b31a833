use Rattle.i2c_top.specs.forms.Atrs.{atr_form, map_row}
use Rattle.i2c_top.specs.forms.Extras.{extra_told}
use Rattle.i2c_top.proofs.ExtraCauses.{extra_decides}
use Rattle.i2c_top.proofs.ExtraLemmas.{ended_written}
use Rattle.i2c_top.proofs.MapLaws.{map-row}
use Rattle.i2c_top.proofs.EndingLemmas.{ended_as}
use Rattle.i2c_top.proofs.forms.atr.atr_call.Goals as goal

pub returns-clause-ended : goal.returns-clause-ended
returns-clause-ended g c =
    ended_as atr_form c.atr-outcome.result c.of-names.ensures.value (extra_decides map_row map-row (extra_told c.of-names.result)) c.requires.words
    c.atr-outcome.ensures.done c.atr-outcome.ensures.refused c.write_outcome.ensures.done c.write_outcome.ensures.refused

pub returns-clause-translated : goal.returns-clause-translated
returns-clause-translated g c = ended_written map_row _ _ _ c.write_outcome.result (returns-clause-ended g c)

use Rattle.std.proofs.Common.{subst}
use Rattle.std.specs.Prelude.{OnOk}
use Rattle.std.proofs.lemmas.Result.{IfErr-weaker}
use Rattle.i2c_top.specs.forms.Extras.{ExtraNames, extra_told}
use Rattle.i2c_top.proofs.EndingLemmas.{ended_as}
use Rattle.i2c_top.proofs.ExtraCauses.{extra_decides}
use Rattle.i2c_physics.specs.FailPorts.{logs_given}
use Rattle.i2c_lab.specs.Faults.{HasFailedAsListed, faults_form, list_row}
use Rattle.i2c_lab.proofs.FaultLemmas.{of-success}
use Rattle.i2c_lab.proofs.RowLaws.{list-row}
use Rattle.i2c_lab.proofs.faults.faults_call.Goals as goal

pub returns-clause-ended : goal.returns-clause-ended
returns-clause-ended g c =
    ended_as faults_form c.faults-outcome.result c.of-names.ensures.value (extra_decides list_row list-row (extra_told c.of-names.result))
    c.requires.words c.faults-outcome.ensures.done c.faults-outcome.ensures.refused c.write_outcome.ensures.done c.write_outcome.ensures.refused

pub returns-clause-failed : goal.returns-clause-failed
returns-clause-failed g c =
    λ t.
    of-success c.faults-outcome.result _ _ _ c.write_outcome.result _
    (IfErr-weaker c.faults-outcome.result _ _ (λ e r. r.refusal) c.faults-outcome.ensures.refused) c.write_outcome.ensures.refused
    (subst (λ (ns : ExtraNames). OnOk c.faults-outcome.result (HasFailedAsListed (g.S.Shelf.file c.args.shelf.now) ns
    (logs_given c.faults-outcome.new.rig.given))) c.of-names.ensures.value (c.faults-outcome.ensures.failed t))

use Rattle.i2c_top.proofs.Cited.{verify_form, verify_told}
use Rattle.i2c_top.proofs.CheckLemmas.{no_rig}
use Rattle.i2c_top.proofs.EndingLemmas.{ended_as, for_ok, for_err}
use Rattle.i2c_top.proofs.VerifyLemmas.{verify_decides, ended_verified}
use Rattle.i2c_top.proofs.forms.verify.verify_call.Goals as goal

pub returns-clause-ended : goal.returns-clause-ended
returns-clause-ended g c =
    λ rig. ended_as verify_form c.verify-outcome.result c.names_in-names.ensures.value
    (verify_decides c.scripts_are_fair.ensures c.no_section_has_a_journal_line.ensures c.a_report_has_one_answer.ensures.faultless
    c.a_report_has_one_answer.ensures.fault (verify_told c.names_in-names.result)) c.requires.words
    (for_ok c.verify-outcome.result _ c.verify-outcome.ensures.done rig)
    (for_err c.verify-outcome.result _ c.verify-outcome.ensures.refused rig)
    c.write_outcome.ensures.done c.write_outcome.ensures.refused

pub returns-clause-success : goal.returns-clause-success
returns-clause-success g c = ended_verified _ _ _ c.write_outcome.result (returns-clause-ended g c no_rig)

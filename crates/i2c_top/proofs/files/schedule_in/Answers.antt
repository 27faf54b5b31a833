use Rattle.i2c_top.proofs.Cited.{ap, sym, ◌∙◌, Some, IfOk-weaker}
use Rattle.i2c_top.proofs.FileLemmas.{schedule_in}
use Rattle.i2c_top.proofs.files.schedule_in.Goals as goal

pub returns-clause-scheduled : goal.returns-clause-scheduled
returns-clause-scheduled g c =
    IfOk-weaker c.words_of.result _ _ (λ v h. record { text = c.as_slice.result.now; read = h }) c.words_of.ensures.read

pub returns-clause-schedule : goal.returns-clause-schedule
returns-clause-schedule g c =
    λ t. schedule_in _ _ _ _ c.words_of.result (λ v. v.items) (c.in_ok-text.ensures.bytes t
    ∙ ap (λ x. Some x) (sym c.as_slice.ensures.value)) c.words_of.ensures.read

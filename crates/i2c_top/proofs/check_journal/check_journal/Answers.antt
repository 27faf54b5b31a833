use Rattle.i2c_top.proofs.Cited.{subst, IsPlainBoard, CanBeChecked, checked_on, texts_of}
use Rattle.i2c_top.proofs.CheckedLemmas.{can-be, each-fault, each-report}
use Rattle.i2c_top.proofs.check_journal.check_journal.Goals as goal
use Rattle.i2c_top.proofs.check_journal.check_journal.Goals.{After-found}

can : (c : After-found) → CanBeChecked (checked_on c.args.board.now (texts_of c.args.scripts.items))
can c =
    can-be c.args.board.now (texts_of c.args.scripts.items) (subst IsPlainBoard c.board.ensures.value c.roots.ensures.plain)
    c.board.ensures.rules c.scripts_are_fair.ensures c.no_section_has_a_journal_line.ensures

pub returns-clause-each_report : goal.returns-clause-each_report
returns-clause-each_report c =
    let law = c.a_report_has_one_answer.ensures in
    each-report _ c.args.text.now (can c) c.found.result c.found.ensures.verified c.found.ensures.fault law.counted law.faultless law.fault

pub returns-clause-each_fault : goal.returns-clause-each_fault
returns-clause-each_fault c =
    let law = c.a_report_has_one_answer.ensures in
    each-fault _ c.args.text.now (can c) c.found.result c.found.ensures.verified c.found.ensures.fault law.counted law.faultless law.fault

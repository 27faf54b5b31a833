use Rattle.i2c_top.proofs.Cited.{◌≡◌, ◌≤◌, ◌^◌, List, length, map, ◌∙◌, ap, subst, inl, inr, arith, Seat, entries_of, sections, CallerView}
use Rattle.i2c_top.proofs.Cited.{Entry, FirstOther, section_of, texts_of}
use Rattle.journal_check.specs.Forms.{lines_of}
use Rattle.i2c_top.proofs.CheckedLemmas.{entry-fault, few-entries, report-verified, text-fault}
use Rattle.i2c_top.proofs.check_journal.found.Goals as goal

pub returns-in-Err-clause-fault : goal.returns-in-Err-clause-fault
returns-in-Err-clause-fault c =
    elim c.in-Err.ensures.wrong [
      | inl memory ↦ inl memory
      | inr wrong ↦ inr (entry-fault c.args.board.now (texts_of c.args.scripts.items) c.args.text.now c.in-Ok.report.sections.now
          c.in-Ok.report.lines.now c.in-Ok.ensures.form c.in-Err.fault wrong)
    ]

pub overflow_cast-result : goal.overflow_cast-result
overflow_cast-result c =
    let few = few-entries c.args.board.now (texts_of c.args.scripts.items) c.args.text.now c.in-Ok.report.sections.now
    c.in-Ok.report.lines.now c.in-Ok.ensures.form in
    let many : c.len.result ≡ length (entries_of c.in-Ok.report.lines.now) =
    c.len.ensures ∙ ap (λ (es : List Entry). length es) c.in-Ok-followed.ensures.checked.same in
    let short : length c.args.text.now ≤ 2 ^ 28 = c.requires.short in
    omega (arith, few, many, short)

pub returns-in-Ok-check_sections-clause-verified : goal.returns-in-Ok-check_sections-clause-verified
returns-in-Ok-check_sections-clause-verified c =
    report-verified c.args.board.now (texts_of c.args.scripts.items) c.args.text.now c.in-Ok.report.sections.now c.in-Ok.report.lines.now
    c.in-Ok.ensures.form c.in-Ok-followed.followed.seats.items c.in-Ok-followed.followed.journal.entries c.in-Ok-followed.ensures.checked
    c.scripts_are_fair.ensures c.len.result
    (c.in-Ok-check_sections.ensures.same
    ∙ ap (λ (ss : List (Seat CallerView)). sections 0 (map (λ s. section_of s.caller) ss)) c.as_slice.ensures.value) c.len.ensures

pub returns-clause-fault : goal.returns-clause-fault
returns-clause-fault c =
    inr (text-fault c.args.board.now (texts_of c.args.scripts.items) c.args.text.now c.in-Ok.report.sections.now c.in-Ok.report.lines.now
    c.in-Ok.ensures.form c.in-Ok-followed.followed.seats.items c.in-Ok-followed.followed.journal.entries c.in-Ok-followed.ensures.checked
    c.scripts_are_fair.ensures c.in-Err-check_sections.line
    (subst (λ (ss : List (Seat CallerView)). FirstOther 1 (lines_of c.in-Ok.report.sections.now)
    (lines_of (sections 0 (map (λ s. section_of s.caller) ss)))
    c.in-Err-check_sections.line) c.as_slice.ensures.value c.in-Err-check_sections.ensures.other))

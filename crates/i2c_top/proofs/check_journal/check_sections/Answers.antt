use Rattle.i2c_top.proofs.Cited.{◌<◌, map, sym, subst, length-map, IsWhole, section_of}
use Rattle.i2c_top.proofs.CheckedLemmas.{beside-next, beside-other, left-short, own-text, section-whole}
use Rattle.i2c_top.proofs.check_journal.check_sections.Goals as goal

pub section_goes_on-requires-clause-short : goal.section_goes_on-requires-clause-short
section_goes_on-requires-clause-short c = left-short c.args.text.now _ _ _ _ c.loop-place.invariant c.requires.short

pub section_goes_on-requires-clause-whole : goal.section_goes_on-requires-clause-whole
section_goes_on-requires-clause-whole c =
    subst IsWhole (sym c.text.ensures) (section-whole c.no_section_has_a_journal_line.ensures c.index-callers-place.result.caller)

pub returns-in-Err-clause-other : goal.returns-in-Err-clause-other
returns-in-Err-clause-other c =
    beside-other c.args.text.now (map (λ s. section_of s.caller) c.args.callers.now) c.loop-place.place c.loop-place.left.rest.now
    c.loop-place.left.number c.loop-place.invariant c.text.result.now (section_of c.index-callers-place.result.caller)
    (subst (λ n. c.loop-place.place < n) (sym (length-map c.args.callers.now (λ s. section_of s.caller))) c.loop-place-test.true)
    (own-text c.args.callers.now c.loop-place.place c.index-callers-place.result c.text.result.now c.index-callers-place.is c.text.ensures)
    c.in-Err.line c.in-Err.ensures.other

pub loop-place-preserved : goal.loop-place-preserved
loop-place-preserved c =
    beside-next c.args.text.now (map (λ s. section_of s.caller) c.args.callers.now) c.loop-place.place c.loop-place.left.rest.now
    c.loop-place.left.number c.loop-place.invariant c.text.result.now (section_of c.index-callers-place.result.caller)
    (subst (λ n. c.loop-place.place < n) (sym (length-map c.args.callers.now (λ s. section_of s.caller))) c.loop-place-test.true)
    (own-text c.args.callers.now c.loop-place.place c.index-callers-place.result c.text.result.now c.index-callers-place.is c.text.ensures)
    c.in-Ok.behind.rest.now c.in-Ok.behind.number c.in-Ok.ensures.ok

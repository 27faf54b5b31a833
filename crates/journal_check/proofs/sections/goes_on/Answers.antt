use Rattle.journal_check.proofs.Cited.{ℕ, ◌+◌, List, length, drop, sym, subst}
use Rattle.journal_check.proofs.SectionLemmas.{IsBeside, other-here, same-here, goes-on}
use Rattle.journal_check.proofs.sections.goes_on.Goals as goal

pub returns-then-not-begins_with-clause-other : goal.returns-then-not-begins_with-clause-other
returns-then-not-begins_with-clause-other c =
    let found = c.in-Some.ensures.some in
    other-here c.args.due.now c.args.sections.now c.args.first c.loop-line.rest.now c.loop-line.more.now c.in-Some.line.now
    c.loop-line.number
    c.loop-line.invariant found.0 found.1 (c.begins_with.ensures.no c.if-not-begins_with.true)

pub loop-line-preserved : goal.loop-line-preserved
loop-line-preserved c =
    let found = c.in-Some.ensures.some in
    subst (λ (xs : List ℕ). IsBeside c.args.due.now c.args.sections.now c.args.first xs c.rest_after-more.result.now (c.loop-line.number + 1))
    (sym c.rest_after-rest.ensures)
    (subst (λ (xs : List ℕ). IsBeside c.args.due.now c.args.sections.now c.args.first (drop
    (length c.in-Some.line.now + 1) c.loop-line.rest.now) xs (c.loop-line.number + 1))
    (sym c.rest_after-more.ensures)
    (same-here c.args.due.now c.args.sections.now c.args.first c.loop-line.rest.now c.loop-line.more.now c.in-Some.line.now
    c.loop-line.number
    c.loop-line.invariant found.0 found.1 (c.begins_with.ensures.yes c.if-not-begins_with.false)))

pub returns-clause-ok : goal.returns-clause-ok
returns-clause-ok c =
    goes-on c.args.due.now c.args.sections.now c.args.first c.loop-line.rest.now c.loop-line.more.now c.loop-line.number
    c.loop-line.invariant
    (c.ended_line.ensures.none c.in_default.is)

use Rattle.journal_check.proofs.Cited.{ℕ, List, length, refl, sym, ◌∙◌, ap, subst, entries_of, JournalView}
use Rattle.journal_check.proofs.StepLemmas.{IsFollowing, at-last, stranger-differs, else-differs, goes-on}
use Rattle.journal_check.proofs.steps.follow_told.Goals as goal

pub returns-then-not-has-clause-differs : goal.returns-then-not-has-clause-differs
returns-then-not-has-clause-differs g c =
    stranger-differs g.C.Caller.asked c.args.core.now.opening c.args.lines.now
    (entries_of c.args.lines.now) c.requires.lines c.loop-rest.core
    c.loop-rest.rest.now c.loop-rest.invariant.follows (sym c.is_empty.ensures ∙ c.loop-rest-test.true) _
    (c.len-before.ensures ∙ ap (λ (j : JournalView). length j.entries) c.journal.ensures) refl c.caller_told-caller.result
    c.caller_told-caller.ensures (sym c.has.ensures ∙ c.if-not-has.true)

pub returns-in-None-clause-differs : goal.returns-in-None-clause-differs
returns-in-None-clause-differs g c =
    else-differs g.C.Caller.asked c.args.core.now.opening c.args.lines.now (entries_of c.args.lines.now) c.requires.lines c.loop-rest.core
    c.step_told.new.core c.loop-rest.rest.now c.loop-rest.invariant.follows (sym c.is_empty.ensures ∙ c.loop-rest-test.true) _
    (c.len-before.ensures ∙ ap (λ (j : JournalView). length j.entries) c.journal.ensures) refl c.caller_told-caller.result
    c.caller_told-caller.ensures c.step_told.ensures.told (c.step_told.ensures.none c.in-None.is)

pub loop-rest-preserved : goal.loop-rest-preserved
loop-rest-preserved g c =
    record {
      follows = subst (λ (rest : List ℕ). IsFollowing g.C.Caller.asked c.args.core.now.opening c.args.lines.now
          (entries_of c.args.lines.now)
          c.step_told.new.core rest)
          (sym c.rest_after-rest.ensures)
          (goes-on g.C.Caller.asked c.args.core.now.opening c.args.lines.now
          (entries_of c.args.lines.now) c.loop-rest.core c.step_told.new.core
          c.loop-rest.rest.now c.loop-rest.invariant.follows c.caller_told-caller.result c.in-Some.count c.step_told.ensures.opening
          c.step_told.ensures.told c.in-Some.ensures.some);
      roots = c.step_told.ensures.roots ∙ c.loop-rest.invariant.roots;
    }

pub returns-clause-whole : goal.returns-clause-whole
returns-clause-whole g c = λ _.
    at-last g.C.Caller.asked c.args.core.now.opening c.args.lines.now (entries_of c.args.lines.now) c.loop-rest.core c.loop-rest.rest.now
    c.loop-rest.invariant.follows (sym c.is_empty.ensures ∙ c.loop-rest-test.false)

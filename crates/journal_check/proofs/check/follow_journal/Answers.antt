use Rattle.journal_check.proofs.Cited.{ℕ, All, List, ◌<◌, ◌≤◌, length, sym, subst, arith, MOST_CALLERS, HasRoot, entries_of, FailedBy}
use Rattle.journal_check.proofs.Cited.{asks_on}
use Rattle.journal_check.proofs.CheckLemmas.{wrong-at, before-fits}
use Rattle.journal_check.proofs.check.follow_journal.Goals as goal

pub overflow_add-result : goal.overflow_add-result
overflow_add-result g c =
    let fits : c.in-Some.place.before < length c.args.lines.now =
    before-fits g.C.Caller.asked c.args.core.opening c.follow_told.new.core (entries_of c.args.lines.now) c.args.lines.now c.requires.lines
    c.in-Some.place c.in-Some.ensures.differs in
    let few : c.first_step.result ≤ 2 = c.first_step.ensures.few in
    omega (arith, fits, few, c.type_inv.lines)

pub returns-clause-wrong : goal.returns-clause-wrong
returns-clause-wrong g c =
    let o = c.args.core.opening in
    let es = entries_of c.args.lines.now in
    wrong-at g.C.Caller.asked c.args.core.opening c.follow_told.new.core (entries_of c.args.lines.now) g.P.FailsAsTold.gaps c.requires.named
    (λ past gaps steps each. c.the_roots_tell_each_call.ensures.fails c.args.core.opening.board MOST_CALLERS
    (asks_on g.C.Caller.asked c.args.core.opening)
    past gaps c.requires.plain c.requires.rules c.requires.some steps each)
    (λ past r steps. c.the_roots_tell_each_call.ensures.root c.args.core.opening.board MOST_CALLERS
    (asks_on g.C.Caller.asked c.args.core.opening)
    past r c.requires.plain c.requires.rules c.requires.some steps)
    c.args.count c.requires.numbered c.requires.silent
    (λ r low. subst (λ (rs : List ℕ). HasRoot rs r) (sym c.follow_told.ensures.roots) (c.requires.wired r low))
    g.P.Port.world g.P.Port.log c.take_apart-ports.result.ports.items c.take_apart-ports.ensures.worlds c.take_apart-ports.ensures.logs
    (subst (λ (ps : List (ℕ × g.row.P.Denot)). All (λ p. FailedBy (g.P.Port.log p.1) (g.P.FailsAsTold.gaps (g.P.Port.world p.1).root)) ps)
    c.as_slice.ensures.value c.all_fail_as_told.ensures)
    c.args.lines.now c.requires.lines c.follow_told.ensures.opening c.in-Some.place c.in-Some.ensures.differs
    (λ front next rest steps none cant. c.where_a_step_differs_a_journal_is_wrong.ensures.wrong c.args.core.opening.board MOST_CALLERS
    (asks_on g.C.Caller.asked c.args.core.opening) front next rest c.requires.plain c.requires.rules c.requires.some c.requires.limits steps
    none cant)
    (λ i first. c.where_a_step_differs_a_journal_is_wrong.ensures.fewer c.args.core.opening.board MOST_CALLERS c.args.count
    (asks_on g.C.Caller.asked c.args.core.opening) (entries_of c.args.lines.now) i c.requires.plain c.requires.rules c.requires.some
    c.requires.limits
    c.requires.few c.requires.silent first)
    c.rest_after.result.now c.rest_after.ensures c.first_step.result c.first_step.ensures.step

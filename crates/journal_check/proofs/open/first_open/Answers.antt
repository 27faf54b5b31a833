use Rattle.journal_check.proofs.Cited.{reverse, subst, IsLeast, CoreState, asks_on}
use Rattle.journal_check.proofs.OverLemmas.{no-answer, none-least, steady-few}
use Rattle.journal_check.proofs.open.first_open.Goals as goal

pub returns-in-Some-clause-legal : goal.returns-in-Some-clause-legal
returns-in-Some-clause-legal g c =
    c.a_journal_is_legal.ensures c.args.core.now.opening.board c.args.count (asks_on g.C.Caller.asked c.args.core.now.opening)
    (reverse c.args.core.now.journal.entries) c.requires.plain c.requires.rules c.requires.some c.requires.limits
    (steady-few g.C.Caller.asked c.args.core.now.opening c.args.core.now.journal.entries c.args.count c.requires.silent c.requires.steady)
    c.requires.steady.rests

pub returns-in-None-clause-legal : goal.returns-in-None-clause-legal
returns-in-None-clause-legal g c =
    c.a_journal_is_legal.ensures c.args.core.now.opening.board c.args.count (asks_on g.C.Caller.asked c.args.core.now.opening)
    (reverse c.args.core.now.journal.entries) c.requires.plain c.requires.rules c.requires.some c.requires.limits
    (steady-few g.C.Caller.asked c.args.core.now.opening c.args.core.now.journal.entries c.args.count c.requires.silent c.requires.steady)
    c.requires.steady.rests

pub returns-in-None-clause-none : goal.returns-in-None-clause-none
returns-in-None-clause-none g c = λ _.
    let over = c.least_open.ensures.none c.in-None.is in (
      over.0,
      c.a_finished_journal_is_complete.ensures.complete c.args.core.now.opening.board c.args.count
          (asks_on g.C.Caller.asked c.args.core.now.opening)
          (reverse c.args.core.now.journal.entries) c.requires.plain c.requires.rules c.requires.some
          (steady-few g.C.Caller.asked c.args.core.now.opening c.args.core.now.journal.entries c.args.count c.requires.silent
          c.requires.steady)
          (λ d low. ((over.1 d low).walk, (over.1 d low).asks)),
    )

pub returns-in-None-clause-some : goal.returns-in-None-clause-some
returns-in-None-clause-some g c =
    let over = c.least_open.ensures.none c.in-None.is in
    no-answer c.ready.result _ _ c.ready.ensures.some
    (λ d least. none-least g.C.Caller.asked c.args.core.now c.args.count c.requires.silent c.requires.steady over.1 g.P.Port.tells
    c.requires.tells d
    (subst (λ (v : CoreState g.row.C-Script.Denot). IsLeast g.C.Caller.asked g.P.Port.tells v d) over.0 least))

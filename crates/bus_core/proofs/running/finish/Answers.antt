use Rattle.bus_core.proofs.Cited.{List, [], reverse, sym, subst, reverse-reverse, Entry, MOST_CALLERS, GoesOnBy, asks_in, HasCome}
use Rattle.bus_core.proofs.Cited.{KeepsSchedule, AllThrough, state_of, CoreInside}
use Rattle.bus_core.proofs.Loops.{come-refl, come-then, least-keeps, all-through}
use Rattle.bus_core.proofs.running.finish.Goals as goal

pub steps-init : goal.steps-init
steps-init g c = record { core = c.requires.core; come = come-refl g.P.Port g.C.Caller c.args.parts.now; keeps = λ words from keeps. keeps }

pub advance_least-requires-clause-core : goal.advance_least-requires-clause-core
advance_least-requires-clause-core g c κs within = c.steps.invariant.core

pub steps-smaller : goal.steps-smaller
steps-smaller g c = (c.advance_least.ensures.made c.steps-test.true).made.room

pub steps-preserved : goal.steps-preserved
steps-preserved g c =
    let x = c.steps.parts in
    let new = c.advance_least.new.parts in
    let least = c.advance_least.ensures.made c.steps-test.true in
    let was = c.steps.invariant in
    record {
      core = c.advance_least.ensures.core;
      come = come-then g.P.Port g.C.Caller c.args.parts.now x new was.come least.made.come;
      keeps = λ words from keeps. least-keeps g.P.Port g.C.Caller x was.core least.caller new least.made
          (λ ws front old plain rules some steps due t turn before kept. c.a_loop_follows.ensures.least x.board MOST_CALLERS
          (asks_in g.C.Caller x) ws front old plain rules some steps due t turn before kept)
          least.place least.at least.before words from (was.keeps words from keeps);
    }

pub returns-clause-come : goal.returns-clause-come
returns-clause-come g c = subst (λ (y : CoreInside _ _). HasCome g.P.Port g.C.Caller c.args.parts.now y)
    (sym (c.advance_least.ensures.none c.steps-test.false).0) c.steps.invariant.come

pub returns-clause-through : goal.returns-clause-through
returns-clause-through g c =
    let none = c.advance_least.ensures.none c.steps-test.false in
    subst (λ (y : CoreInside _ _). AllThrough g.C.Caller.asked g.P.Port.tells (state_of g.P.Port g.C.Caller y)) (sym none.0)
    (all-through g.P.Port g.C.Caller c.steps.parts c.steps.invariant.core none.1)

pub returns-clause-keeps : goal.returns-clause-keeps
returns-clause-keeps g c words from keeps =
    subst (λ (y : CoreInside _ _). KeepsSchedule g.P.Port g.C.Caller words from [] y)
    (sym (c.advance_least.ensures.none c.steps-test.false).0)
    (c.steps.invariant.keeps words from keeps)

pub returns-clause-follows : goal.returns-clause-follows
returns-clause-follows g c tell =
    let x = c.args.parts.now in
    let new = c.advance_least.new.parts in
    let past : List Entry = reverse x.journal.entries in
    let all = returns-clause-keeps g c [] past
    (λ t. c.a_loop_follows.ensures.whole x.board MOST_CALLERS (asks_in g.C.Caller x) [] past) tell in
    subst (λ (es : List Entry). GoesOnBy [] x.journal.entries es) (reverse-reverse new.journal.entries)
    (subst (λ (es : List Entry). GoesOnBy [] es (reverse (reverse new.journal.entries))) (reverse-reverse x.journal.entries)
    (c.a_loop_follows.ensures.end new.board MOST_CALLERS (asks_in g.C.Caller new) [] past (reverse new.journal.entries) all))

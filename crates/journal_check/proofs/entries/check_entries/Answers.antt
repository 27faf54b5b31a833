use Rattle.journal_check.proofs.Cited.{◌≡◌, ℕ, ◌<◌, ◌≤◌, List, true, None, length, reverse, sym, ap, subst, arith, flat_map, ended_line}
use Rattle.journal_check.proofs.Cited.{Reply, IsLegal, IsComplete, entries_of, CoreState, has_caller, asks_on}
use Rattle.bus_laws.specs.Reach.{AsksForMessages, AsksWithinLimits}
use Rattle.bus_core.specs.State.{AllThrough}
use Rattle.journal_check.specs.Checks.{HasPassed}
use Rattle.journal_check.specs.Faults.{AtEntry, AtCaller}
use Rattle.journal_check.proofs.LineLemmas.{fewer-entries}
use Rattle.journal_check.proofs.OverLemmas.{on-opening, from-there, first-left}
use Rattle.journal_check.proofs.entries.check_entries.Goals as goal

pub returns-in-Err-clause-wrong : goal.returns-in-Err-clause-wrong
returns-in-Err-clause-wrong g c = AtEntry c.in-Err.entry c.in-Err.ensures.wrong

pub first_open-requires-clause-some : goal.first_open-requires-clause-some
first_open-requires-clause-some g c κs within =
    on-opening g.C.Caller.asked c.args.core.opening (entries_of c.args.lines.now) c.in-Ok.core c.in-Ok.ensures.ok
    (λ x. AsksForMessages (asks_on g.C.Caller.asked x)) c.requires.some

pub first_open-requires-clause-limits : goal.first_open-requires-clause-limits
first_open-requires-clause-limits g c κs within =
    on-opening g.C.Caller.asked c.args.core.opening (entries_of c.args.lines.now) c.in-Ok.core c.in-Ok.ensures.ok
    (λ x. AsksWithinLimits (asks_on g.C.Caller.asked x)) c.requires.limits

pub first_open-requires-clause-has : goal.first_open-requires-clause-has
first_open-requires-clause-has g c κs within =
    on-opening g.C.Caller.asked c.args.core.opening (entries_of c.args.lines.now) c.in-Ok.core c.in-Ok.ensures.ok
    (λ x. (n : ℕ) → n < c.args.count → has_caller x.scripts n ≡ true) c.requires.has

pub first_open-requires-clause-silent : goal.first_open-requires-clause-silent
first_open-requires-clause-silent g c κs within =
    on-opening g.C.Caller.asked c.args.core.opening (entries_of c.args.lines.now) c.in-Ok.core c.in-Ok.ensures.ok
    (λ x. (n : ℕ) → c.args.count ≤ n → (rs : List Reply) → asks_on g.C.Caller.asked x n rs ≡ None) c.requires.silent

pub returns-in-Some-clause-wrong : goal.returns-in-Some-clause-wrong
returns-in-Some-clause-wrong g c =
    AtCaller c.in-Some.caller
    (from-there g.C.Caller.asked c.args.core.opening (entries_of c.args.lines.now) c.in-Ok.core c.in-Ok.ensures.ok
    (λ x xs. IsLegal x.board c.args.count (asks_on g.C.Caller.asked x) (reverse xs)) c.first_open.ensures.legal)
    (first-left g.C.Caller.asked c.args.core.opening (entries_of c.args.lines.now) c.in-Ok.core c.in-Ok.ensures.ok c.args.count
    c.in-Some.caller
    c.in-Some.ensures.some)

pub returns-clause-ok : goal.returns-clause-ok
returns-clause-ok g c =
    let none = c.first_open.ensures.none c.in-None.is in
    subst (λ (v : CoreState g.row.C-Script.Denot). HasPassed g.C.Caller.asked g.P.Port.tells c.args.core.opening c.args.count
    (entries_of c.args.lines.now) v)
    (sym none.0)
    (record {
      followed = c.in-Ok.ensures.ok;
      legal = from-there g.C.Caller.asked c.args.core.opening (entries_of c.args.lines.now) c.in-Ok.core c.in-Ok.ensures.ok
          (λ x xs. IsLegal x.board c.args.count (asks_on g.C.Caller.asked x) (reverse xs)) c.first_open.ensures.legal;
      complete = from-there g.C.Caller.asked c.args.core.opening (entries_of c.args.lines.now) c.in-Ok.core c.in-Ok.ensures.ok
          (λ x xs. IsComplete x.board c.args.count (asks_on g.C.Caller.asked x) (reverse xs)) none.1;
      through = subst (λ (v : CoreState g.row.C-Script.Denot). AllThrough g.C.Caller.asked g.P.Port.tells v) none.0
          (c.first_open.ensures.through c.in-None.is);
    })

pub overflow_cast-result : goal.overflow_cast-result
overflow_cast-result g c =
    let there : c.in-Err.entry < length (entries_of c.args.lines.now) = c.in-Err.ensures.wrong.ends.there in
    let fewer = fewer-entries (entries_of c.args.lines.now) in
    let lines : length c.args.lines.now ≡ length (flat_map ended_line (entries_of c.args.lines.now)) =
    ap (λ (xs : List ℕ). length xs) c.requires.lines.lines in
    let short = c.requires.short in
    omega (arith, there, fewer, lines, short)

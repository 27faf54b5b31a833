use Rattle.bus_core.proofs.Cited.{◌≡◌, ℕ, ◌+◌, List, [], reverse, get_or, refl, sym, subst, arith, drop, reverse-reverse, All-get_or, Entry}
use Rattle.bus_core.proofs.Cited.{MOST_CALLERS, GoesOnBy, asks_in, HasCome, HasPlace, KeepsSchedule}
use Rattle.bus_core.proofs.Loops.{come-refl, come-then, stepped-or-waited, drop-next}
use Rattle.bus_core.proofs.running.follow.Goals as goal
use Rattle.i2c_base.proofs.ListLemmas.{drop_all}

pub loop-place-init : goal.loop-place-init
loop-place-init g c =
    let x = c.args.parts.now in
    record {
      end_is = refl;
      core = c.requires.core;
      come = come-refl g.P.Port g.C.Caller x;
      keeps = λ tell. c.a_loop_follows.ensures.whole x.board MOST_CALLERS (asks_in g.C.Caller x) c.args.words.now
          (reverse x.journal.entries);
    }

pub advance-requires-clause-has : goal.advance-requires-clause-has
advance-requires-clause-has g c κs within =
    subst (λ (ps : _). HasPlace ps.items (get_or c.args.words.now c.loop-place.place 0)) (sym c.loop-place.invariant.come.places)
    (All-get_or (HasPlace c.args.parts.now.places.items) c.args.words.now c.loop-place.place 0 c.loop-place-test.true c.requires.words)

pub loop-place-preserved : goal.loop-place-preserved
loop-place-preserved g c =
    let x = c.loop-place.parts in
    let new = c.advance.new.parts in
    let words = c.args.words.now in
    let w = get_or words c.loop-place.place 0 in
    let past : List Entry = reverse c.args.parts.now.journal.entries in
    let was = c.loop-place.invariant in
    let next = drop-next words c.loop-place.place c.loop-place-test.true in
    let both : HasCome g.P.Port g.C.Caller x new
    × KeepsSchedule g.P.Port g.C.Caller words past (drop (c.loop-place.place + 1) words) new =
    stepped-or-waited g.P.Port g.C.Caller x was.core
    (λ ws front old plain rules some steps due t turn left kept. c.a_loop_follows.ensures.made x.board MOST_CALLERS
    (asks_in g.C.Caller x) ws front old plain rules some steps due t turn left kept)
    (λ ws front old plain rules some steps k stuck left kept. c.a_loop_follows.ensures.passed x.board MOST_CALLERS
    (asks_in g.C.Caller x) ws front old plain rules some steps k stuck left kept)
    w new c.advance.result c.advance.ensures.made c.advance.ensures.waited words past
    (drop (c.loop-place.place + 1) words)
    (subst (λ (ws : List ℕ). KeepsSchedule g.P.Port g.C.Caller words past ws x) next was.keeps) in
    record {
      end_is = was.end_is;
      core = c.advance.ensures.core;
      come = come-then g.P.Port g.C.Caller c.args.parts.now x new was.come both.0;
      keeps = both.1;
    }

pub returns : goal.returns
returns g c =
    let was = c.loop-place.invariant in
    let x = c.loop-place.parts in
    record {
      core = c.finish.ensures.core;
      come = come-then g.P.Port g.C.Caller c.args.parts.now x c.finish.new.parts was.come c.finish.ensures.come;
      through = c.finish.ensures.through;
      follows = λ tell.
          let left : drop c.loop-place.place c.args.words.now ≡ [] = drop_all c.args.words.now c.loop-place.place
          (omega (arith, was.end_is, c.loop-place-test.false)) in
          let first = c.args.parts.now in
          let past : List Entry = reverse first.journal.entries in
          let new = c.finish.new.parts in
          subst (λ (es : List Entry). GoesOnBy c.args.words.now first.journal.entries es) (reverse-reverse new.journal.entries)
          (subst (λ (es : List Entry). GoesOnBy c.args.words.now es (reverse (reverse new.journal.entries)))
          (reverse-reverse first.journal.entries)
          (c.a_loop_follows.ensures.end new.board MOST_CALLERS (asks_in g.C.Caller new) c.args.words.now past (reverse new.journal.entries)
          (c.finish.ensures.keeps c.args.words.now past
          (subst (λ (ws : List ℕ). KeepsSchedule g.P.Port g.C.Caller c.args.words.now past ws x) left was.keeps) tell)));
    }

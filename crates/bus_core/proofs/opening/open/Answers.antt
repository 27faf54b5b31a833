use Rattle.bus_core.proofs.Cited.{◌≡◌, ℕ, List, length, refl, sym, ◌∙◌, ap, subst, rules, BoardView, JournalView, IsPlainBoard, MeetsRules}
use Rattle.bus_core.proofs.Cited.{AreDepths, opened, roots_of, AreSeated, MayOpen}
use Rattle.core_laws.specs.Opens.{AreFree}
use Rattle.core_laws.proofs.Laws.{opened-free}
use Rattle.bus_core.proofs.Opened.{opened-core}
use Rattle.bus_core.proofs.Seating.{seated-all, seated-untaken}
use Rattle.bus_core.proofs.opening.open.Goals as goal

pub returns-clause-core : goal.returns-clause-core
returns-clause-core g c =
    let b = c.args.board.now in
    let same : c.seats_of.new.board ≡ b = c.in_ok-seats.ensures.board ∙ c.in_ok-board.ensures in
    let plain : IsPlainBoard b = subst IsPlainBoard c.board.ensures.value c.roots.ensures.plain in
    let seated : AreSeated g.C.Caller b (roots_of c.args.ports.items) c.args.callers.items
    (length c.args.callers.items) c.in_ok-seats.seats.items c.in_ok-seats.places.items =
    subst (λ (y : BoardView). AreSeated g.C.Caller y (roots_of c.args.ports.items) c.args.callers.items
    (length c.args.callers.items) c.in_ok-seats.seats.items c.in_ok-seats.places.items) c.in_ok-board.ensures
    (subst (λ (xs : List _). AreSeated g.C.Caller c.in_ok-board.board (roots_of xs) c.args.callers.items
    (length c.args.callers.items) c.in_ok-seats.seats.items c.in_ok-seats.places.items)
    c.as_slice-2.ensures.value c.in_ok-seats.ensures.seated) in
    let roots : length c.roots.result.now ≡ length b.roots = ap length c.roots.ensures.value
    ∙ ap (λ (x : BoardView). length x.roots) c.board.ensures.value in
    let muxes : length c.muxes.result.now ≡ length b.muxes = ap length c.muxes.ensures.value
    ∙ ap (λ (x : BoardView). length x.muxes) c.board-2.ensures.value in
    let locks : c.in_ok-locks.locks ≡ opened c.in_ok-depths.depths.items (length b.roots) (length b.muxes) =
    c.in_ok-locks.ensures ∙ ap (λ (ds : List ℕ). opened ds (length c.roots.result.now) (length c.muxes.result.now)) c.as_slice.ensures.value
    ∙ ap (λ (n : ℕ). opened c.in_ok-depths.depths.items n (length c.muxes.result.now)) roots
    ∙ ap (opened c.in_ok-depths.depths.items (length b.roots)) muxes in
    opened-core g.P.Port g.C.Caller _ c.args.callers.items c.args.limit
    (subst (λ (y : BoardView). MayOpen g.P.Port g.C.Caller y c.args.ports.items c.args.callers.items c.args.limit) (sym same) c.requires)
    (subst IsPlainBoard (sym same) plain) (subst MeetsRules (sym same) c.board.ensures.rules)
    (subst (λ (y : BoardView). AreSeated g.C.Caller y (roots_of c.args.ports.items) c.args.callers.items
    (length c.args.callers.items) c.in_ok-seats.seats.items c.in_ok-seats.places.items) (sym same) seated)
    c.in_ok-depths.depths.items (subst (λ (y : BoardView). AreDepths y c.in_ok-depths.depths.items) (sym same) c.in_ok-depths.ensures.are)
    (locks ∙ ap (λ (y : BoardView). opened c.in_ok-depths.depths.items (length y.roots) (length y.muxes)) (sym same))
    c.in_ok-journal.ensures

pub returns-clause-opened : goal.returns-clause-opened
returns-clause-opened g c =
    record {
      board = c.in_ok-seats.ensures.board ∙ c.in_ok-board.ensures;
      ports_are = refl;
      start = search rules;
      scripts = seated-all g.C.Caller c.in_ok-board.board
          (roots_of c.as_slice-2.result.now) c.args.callers.items c.in_ok-seats.seats.items c.in_ok-seats.places.items
          c.in_ok-seats.ensures.seated;
      taken = seated-untaken g.C.Caller c.in_ok-board.board
          (roots_of c.as_slice-2.result.now) c.args.callers.items c.requires.untaken c.in_ok-seats.seats.items c.in_ok-seats.places.items
          c.in_ok-seats.ensures.seated;
      locks = subst AreFree (sym c.in_ok-locks.ensures) (opened-free c.as_slice.result.now
          (length c.roots.result.now) (length c.muxes.result.now));
      entries = ap (λ (j : JournalView). j.entries) c.in_ok-journal.ensures;
      room = ap (λ (j : JournalView). j.room) c.in_ok-journal.ensures;
    }

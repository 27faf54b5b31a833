use Rattle.i2c_top.proofs.Cited.{ℕ, List, map, sym, subst, enumerate_from, IsPlainBoard, MayOpen}
use Rattle.i2c_top.proofs.CoreLemmas.{may-open, core-opened}
use Rattle.i2c_top.proofs.callers.opened.Goals as goal

pub open-requires-after_bounds : goal.open-requires-after_bounds
open-requires-after_bounds g c κs within =
    let b = c.args.board.now in
    let plain : IsPlainBoard b = subst IsPlainBoard c.board.ensures.value c.roots.ensures.plain in
    let alone = map (λ (p : ℕ × g.row.P.Denot). p.1) c.args.ports.items in
    let may = may-open g.P.Port g.C.Caller b plain c.args.callers.items c.requires.may.ready alone c.args.limit c.requires.may.few
    c.requires.may.fresh.count c.requires.may.fresh.idle c.requires.may.fresh.empty c.requires.may.fresh.worlds
    c.requires.may.fair c.requires.may.covered c.requires.may.cheap in
    subst (λ (ps : List (ℕ × g.row.P.Denot)). MayOpen g.P.Port g.C.Caller b ps c.in_ok-callers.callers.items c.args.limit)
    (sym c.requires.numbered)
    (subst (λ (cs : List (ℕ × g.row.C.Denot)). MayOpen g.P.Port g.C.Caller b (enumerate_from 0 alone) cs c.args.limit)
    (sym c.in_ok-callers.ensures) may)

pub returns-clause-of : goal.returns-clause-of
returns-clause-of g c =
    core-opened g.P.Port g.C.Caller c.args.board.now
    (subst IsPlainBoard c.board.ensures.value c.roots.ensures.plain) c.board.ensures.rules c.args.callers.items
    (map (λ (p : ℕ × g.row.P.Denot). p.1) c.args.ports.items) c.requires.may.fresh.count
    c.args.ports.items c.in_ok-callers.callers.items c.requires.numbered c.in_ok-callers.ensures c.open.result
    c.open.ensures.opening c.open.ensures.worlds

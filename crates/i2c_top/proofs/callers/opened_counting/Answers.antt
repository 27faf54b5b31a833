use Rattle.i2c_top.proofs.Cited.{◌≡◌, ℕ, List, length, map, sym, ◌∙◌, ap, subst, arith, IfOk, enumerate_from, BoardView, IsPlainBoard}
use Rattle.i2c_top.proofs.Cited.{IsCoreOf, MayRun}
use Rattle.bus_core.specs.State.{setups_of}
use Rattle.i2c_top.proofs.callers.opened_counting.Goals as goal
use Rattle.journal_check.proofs.PortLemmas.{firsts}

pub by_root-requires-clause-few : goal.by_root-requires-clause-few
by_root-requires-clause-few g c κs within =
    let plain : IsPlainBoard c.args.board.now = subst IsPlainBoard c.board.ensures.value c.roots-roots.ensures.plain in
    let value : length c.roots-roots.result.now ≡ length c.args.board.now.roots = ap length c.roots-roots.ensures.value
    ∙ ap (λ (x : BoardView). length x.roots) c.board.ensures.value in
    let most = plain.most_roots in
    omega (arith, value, most)

pub opened-requires-clause-may : goal.opened-requires-clause-may
opened-requires-clause-may g c κs within =
    subst (λ (ps : List g.row.P.Denot). MayRun g.P.Port g.C.Caller c.args.board.now c.args.callers.items ps c.args.limit)
    (sym (ap (map (λ (p : ℕ × g.row.P.Denot). p.1)) c.in_ok-ports.ensures ∙ firsts 0 c.args.ports.items)) c.requires.may

pub opened-requires-clause-numbered : goal.opened-requires-clause-numbered
opened-requires-clause-numbered g c κs within =
    c.in_ok-ports.ensures
    ∙ ap (enumerate_from 0) (sym (ap (map (λ (p : ℕ × g.row.P.Denot). p.1)) c.in_ok-ports.ensures ∙ firsts 0 c.args.ports.items))

pub returns-clause-of : goal.returns-clause-of
returns-clause-of g c =
    subst (λ (ps : List g.row.P.Denot). IfOk c.opened.result (IsCoreOf g.C.Caller c.args.board.now c.args.callers.items ps))
    (ap (map (λ (p : ℕ × g.row.P.Denot). p.1)) c.in_ok-ports.ensures ∙ firsts 0 c.args.ports.items) c.opened.ensures.of

pub returns-clause-setups : goal.returns-clause-setups
returns-clause-setups g c =
    subst (λ (ps : List (ℕ × g.row.P.Denot)). IfOk c.opened.result (λ core. core.setups ≡ setups_of g.P.Port.setup ps))
    c.in_ok-ports.ensures c.opened.ensures.setups

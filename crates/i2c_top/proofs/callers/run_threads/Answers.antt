use Rattle.i2c_top.proofs.Cited.{sendable, ◌≡◌, ℕ, List, length, sym, ◌∙◌, ap, subst, arith, IfOk, enumerate_from, crosses, BoardView}
use Rattle.i2c_top.proofs.Cited.{IsPlainBoard, HaveRun, CallerView, script_row}
use Rattle.bus_groups.specs.Rounds.{MayRun}
use Rattle.i2c_top.proofs.GroupLemmas.{AreMasks, costs_in, may-run, ran-left, ran-groups}
use Rattle.i2c_top.proofs.callers.run_threads.Goals as goal

-- a script may go to another thread; each type that it is made of takes a lemma
pub run_groups-requires-send-C : goal.run_groups-requires-send-C
run_groups-requires-send-C g c κs within = search (sendable, crosses) depth 60 fits 20000

pub by_root-requires-clause-few : goal.by_root-requires-clause-few
by_root-requires-clause-few g c κs within =
    let plain : IsPlainBoard c.args.board.now = subst IsPlainBoard c.board.ensures.value c.roots-roots.ensures.plain in
    let value : length c.roots-roots.result.now ≡ length c.args.board.now.roots = ap length c.roots-roots.ensures.value
    ∙ ap (λ (x : BoardView). length x.roots) c.board.ensures.value in
    let most = plain.most_roots in
    omega (arith, value, most)

pub run_groups-requires-after_bounds : goal.run_groups-requires-after_bounds
run_groups-requires-after_bounds g c κs within =
    let b = c.args.board.now in
    let plain : IsPlainBoard b = subst IsPlainBoard c.board.ensures.value c.roots-roots.ensures.plain in
    let scripts = c.args.scripts.items in
    let masks = c.masks_of-masks.result.items in
    let has : AreMasks scripts masks = subst (λ (ss : List CallerView). AreMasks ss masks) c.as_slice.ensures.value
    c.masks_of-masks.ensures in
    let costs : c.as_slice-4.result.now ≡ costs_in scripts =
    c.as_slice-4.ensures.value ∙ c.costs_of-costs.ensures ∙ ap costs_in c.as_slice-2.ensures.value in
    let may = may-run g.P.Port b plain scripts c.requires.opened c.requires.few c.requires.cheap c.args.ports.items
    c.requires.fresh c.scripts_are_fair.ensures masks has in
    subst (λ (ms : List ℕ). MayRun g.P.Port script_row b ms c.as_slice-4.result.now c.in_ok-ports.ports.items c.in_ok-callers.callers.items)
    (sym c.as_slice-3.ensures.value)
    (subst (λ (ks : List ℕ). MayRun g.P.Port script_row b masks ks c.in_ok-ports.ports.items c.in_ok-callers.callers.items) (sym costs)
    (subst (λ (ps : List (ℕ × g.row.P.Denot)). MayRun g.P.Port script_row b masks (costs_in scripts) ps c.in_ok-callers.callers.items)
    (sym c.in_ok-ports.ensures)
    (subst (λ (cs : List (ℕ × CallerView)). MayRun g.P.Port script_row b masks (costs_in scripts) (enumerate_from 0 c.args.ports.items) cs)
    (sym c.in_ok-callers.ensures) may)))

pub returns-clause-left : goal.returns-clause-left
returns-clause-left g c =
    let b = c.args.board.now in
    let plain : IsPlainBoard b = subst IsPlainBoard c.board.ensures.value c.roots-roots.ensures.plain in
    ran-left g.P.Port b plain c.board.ensures.rules c.args.scripts.items c.args.ports.items c.requires.fresh.count
    c.in_ok-ports.ports.items c.in_ok-callers.callers.items c.in_ok-ports.ensures c.in_ok-callers.ensures c.masks_of-masks.result.items
    c.run_groups.result
    (subst (λ (ms : List ℕ). IfOk c.run_groups.result (HaveRun g.P.Port script_row b ms c.in_ok-ports.ports.items
    c.in_ok-callers.callers.items))
    c.as_slice-3.ensures.value c.run_groups.ensures)

pub returns-clause-groups : goal.returns-clause-groups
returns-clause-groups g c tells =
    let b = c.args.board.now in
    let masks = c.masks_of-masks.result.items in
    let has : AreMasks c.args.scripts.items masks =
    subst (λ (ss : List CallerView). AreMasks ss masks) c.as_slice.ensures.value c.masks_of-masks.ensures in
    ran-groups g.P.Port b c.args.scripts.items c.requires.opened c.in_ok-ports.ports.items c.in_ok-callers.callers.items masks has tells
    c.run_groups.result
    (subst (λ (ms : List ℕ). IfOk c.run_groups.result (HaveRun g.P.Port script_row b ms c.in_ok-ports.ports.items
    c.in_ok-callers.callers.items))
    c.as_slice-3.ensures.value c.run_groups.ensures)

use Rattle.mux_plan.proofs.Cited.{◌≡◌, ◌≤◌, List, length, sym, ◌∙◌, ap, subst, All, BoardView, Hop, hops, IsPlainBoard, RouteView, IsNarrow}
use Rattle.i2c_base.specs.Limits.{MOST_DEPTH}
use Rattle.i2c_board.specs.Layouts.{board_of}
use Rattle.i2c_spec.proofs.CostLemmas.{hops_few}
use Rattle.mux_plan.proofs.OpensFit.{path_narrow}
use Rattle.mux_plan.proofs.route.Route.set_route.Goals as goal

pub returns-clause-deep : goal.returns-clause-deep
returns-clause-deep c =
    let b = c.args.board.now in
    let s = c.args.transfer.now.bus in
    let same : board_of c.layout.result ≡ b = c.layout.ensures.value ∙ c.board.ensures.value in
    let path : c.set_transfer.new.self.path ≡ hops b s = ap (λ (x : RouteView). x.path) c.set_transfer.ensures ∙ c.find_hops.ensures
    ∙ ap (λ (x : BoardView). hops x c.bus.result) same ∙ ap (hops b) c.bus.ensures in
    subst (λ (hs : List Hop). length hs ≤ MOST_DEPTH) (sym path)
    (hops_few b s (subst IsPlainBoard c.board.ensures.value c.layout.ensures.plain) c.board.ensures.rules)

pub returns-clause-narrow : goal.returns-clause-narrow
returns-clause-narrow c =
    let b = c.args.board.now in
    let s = c.args.transfer.now.bus in
    let same : board_of c.layout.result ≡ b = c.layout.ensures.value ∙ c.board.ensures.value in
    let path : c.set_transfer.new.self.path ≡ hops b s = ap (λ (x : RouteView). x.path) c.set_transfer.ensures ∙ c.find_hops.ensures
    ∙ ap (λ (x : BoardView). hops x c.bus.result) same ∙ ap (hops b) c.bus.ensures in
    subst (All IsNarrow) (sym path)
    (path_narrow b s (subst IsPlainBoard c.board.ensures.value c.layout.ensures.plain) c.board.ensures.rules c.requires.there)

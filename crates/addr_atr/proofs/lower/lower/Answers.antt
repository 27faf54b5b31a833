use Rattle.addr_atr.proofs.Cited.{◌≡◌, ◌∙◌, ap, subst, map, BoardView, IsPlainBoard, lowered_device}
use Rattle.std.specs.Prelude.{IfOk}
use Rattle.addr_atr.proofs.RouteLemmas.{lowered-parts, parts-same}
use Rattle.addr_atr.proofs.lower.lower.Goals as goal

pub new-requires : goal.new-requires
new-requires c =
    let same = c.board-board.ensures.value in
    let roots = c.in_ok-roots.ensures.items_if_clones_equal (λ x y e. e) ∙ c.roots.ensures.value ∙ ap (λ (b : BoardView). b.roots) same in
    let muxes = c.in_ok-muxes.ensures.items_if_clones_equal (λ x y e. e) ∙ c.muxes.ensures.value ∙ ap (λ (b : BoardView). b.muxes) same in
    let devices = c.in_ok-devices.ensures ∙ ap (λ (b : BoardView). map (lowered_device b c.args.translators.now) b.devices) same in
    lowered-parts c.args.accepted.now c.args.translators.now c.layout.result.version c.in_ok-roots.roots.items c.in_ok-muxes.muxes.items
    c.in_ok-devices.devices.items (ap (λ (b : BoardView). b.version) (c.layout.ensures.value ∙ same)) roots muxes devices
    (subst IsPlainBoard same c.roots.ensures.plain) c.board-board.ensures.rules c.requires

pub returns : goal.returns
returns c =
    let same = c.board-board.ensures.value in
    let roots = c.in_ok-roots.ensures.items_if_clones_equal (λ x y e. e) ∙ c.roots.ensures.value ∙ ap (λ (b : BoardView). b.roots) same in
    let muxes = c.in_ok-muxes.ensures.items_if_clones_equal (λ x y e. e) ∙ c.muxes.ensures.value ∙ ap (λ (b : BoardView). b.muxes) same in
    let devices = c.in_ok-devices.ensures ∙ ap (λ (b : BoardView). map (lowered_device b c.args.translators.now) b.devices) same in
    subst (λ (x : BoardView). IfOk c.new.result (λ b. b ≡ x))
    (parts-same c.args.accepted.now c.args.translators.now c.layout.result.version c.in_ok-roots.roots.items c.in_ok-muxes.muxes.items
    c.in_ok-devices.devices.items (ap (λ (b : BoardView). b.version) (c.layout.ensures.value ∙ same)) roots muxes devices) c.new.ensures

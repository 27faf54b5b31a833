use Rattle.i2c_board.proofs.Cited.{◌+◌, ◌&&◌, Bool, ℕ, Option, length, Some, sym, ◌∙◌, ap, slice_get-get_or, board_of, home_at}
use Rattle.i2c_spec.specs.Rules.{is_same_address}
use Rattle.i2c_spec.specs.Tree.{is_along}
use Rattle.i2c_board.proofs.RuleLemmas.{device_item}
use Rattle.i2c_board.proofs.layout.Layout.is_device_at.Goals as goal

pub returns-then-eq : goal.returns-then-eq
returns-then-eq c =
    let b = board_of c.args.self.now in
    let d = c.args.device in
    let item = device_item b d _ (slice_get-get_or b.devices d _ c.requires.there ∙ ap Some (sym c.spec.view_is)) in
    c.is_along.ensures
    ∙ ap (λ (t : Bool). t && is_along b c.args.home c.spec.inside.bus) c.if-eq.ensures
    ∙ ap (λ (h : ℕ). is_same_address (Some c.args.addr) (Some c.spec.inside.addr) && is_along b c.args.home h) (sym item.1)
    ∙ ap (λ (o : Option ℕ). is_same_address (Some c.args.addr) o && is_along b c.args.home (home_at b (length b.muxes + d))) (sym item.0)

pub returns-else-eq : goal.returns-else-eq
returns-else-eq c =
    let b = board_of c.args.self.now in
    let d = c.args.device in
    let item = device_item b d _ (slice_get-get_or b.devices d _ c.requires.there ∙ ap Some (sym c.spec.view_is)) in
    c.if-eq.false
    ∙ ap (λ (t : Bool). t && is_along b c.args.home (home_at b (length b.muxes + d))) c.if-eq.ensures
    ∙ ap (λ (o : Option ℕ). is_same_address (Some c.args.addr) o && is_along b c.args.home (home_at b (length b.muxes + d))) (sym item.0)

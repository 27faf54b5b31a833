use Rattle.i2c_physics.proofs.Cited.{◌∙◌, ap, arith, ◌≡◌, Bool, not, is_some, board_of, few-made, one-made}
use Rattle.std.proofs.lemmas.Grind.{common_steps}
use Rattle.std.specs.Prelude.{◌&&◌}
use Rattle.i2c_physics.specs.Places.{place_on}
use Rattle.i2c_physics.proofs.sites.Sites.of_muxes.Goals as goal
use Rattle.i2c_physics.proofs.sites.Sites.of_muxes.Goals.{then-not-mux, else-not-mux}

pub push_reserved-requires : goal.push_reserved-requires
push_reserved-requires c = omega (arith, c.loop-mux.invariant.count, c.loop-mux.invariant.room, c.loop-mux-test.true)

pub loop-mux-preserved : goal.loop-mux-preserved
loop-mux-preserved c =
    let m = c.mux-item.result in
    let there : c.if-not-mux.there ≡ (not m.absent && is_some m.addr) =
    elim c.if-not-mux.branch [
      | then-not-mux w ↦ grind (arith, common_steps)
      | else-not-mux w ↦ grind (arith, common_steps)
    ] in
    one-made _ _ _ _ _ _ c.loop-mux.invariant c.loop-mux-test.true c.mux-item.result c.mux-item.is _
    (c.in_ok-open.ensures ∙ ap (λ (there : Bool). place_on (board_of c.args.layout) c.args.root m.bus m.addr there) there) _ _ _
    c.push_reserved.ensures.items c.push_reserved.ensures.len c.push_reserved.ensures.capacity

pub of-requires : goal.of-requires
of-requires c = few-made _ _ _ _ _ _ _ c.loop-mux.invariant c.loop-mux.auto.mux-index-end (omega (arith, c.requires.most_muxes))

use Rattle.i2c_physics.proofs.Cited.{◌≡◌, [], length, refl, sym, splat_is_map, Phase}
use Rattle.i2c_physics.proofs.PlugLemmas.{opened-all, opened-count, opened-worlds}
use Rattle.i2c_physics.proofs.hold_rig.HoldRigRig.plug.Goals as goal

pub returns-clause-idle : goal.returns-clause-idle
returns-clause-idle c = opened-all _ c.args.board.now _ c.in_ok-ports.ensures.opened (λ p. p.phase ≡ Phase.Idle) (λ r. refl)

pub returns-clause-empty : goal.returns-clause-empty
returns-clause-empty c = opened-all _ c.args.board.now _ c.in_ok-ports.ensures.opened (λ p. p.log ≡ []) (λ r. refl)

pub returns-clause-worlds : goal.returns-clause-worlds
returns-clause-worlds c = opened-worlds _ c.args.board.now _ c.in_ok-ports.ensures.opened (λ p. p.world) (λ r. refl)

pub returns-clause-setups : goal.returns-clause-setups
returns-clause-setups c =
    let ports = c.in_ok-ports.ports.items in
    sym (splat_is_map ports (length c.args.board.now.roots) [] (opened-count _ c.args.board.now _ c.in_ok-ports.ensures.opened))

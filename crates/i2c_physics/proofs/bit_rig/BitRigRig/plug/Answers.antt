use Rattle.i2c_physics.proofs.Cited.{◌≡◌, [], refl}
use Rattle.i2c_physics.proofs.WireLemmas.{wired_all}
use Rattle.i2c_physics.proofs.bit_rig.BitRigRig.plug.Goals as goal

pub returns-in-Ok-hold-clause-seen : goal.returns-in-Ok-hold-clause-seen
returns-in-Ok-hold-clause-seen g c =
    wired_all c.args.board.now c.in-Ok.ports.items c.in-Ok.ensures (λ v. v.seen ≡ []) (λ r. refl)

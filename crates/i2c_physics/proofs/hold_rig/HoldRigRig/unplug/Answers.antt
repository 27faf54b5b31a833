use Rattle.i2c_physics.proofs.Cited.{[], arith, splat_is_map}
use Rattle.i2c_physics.proofs.hold_rig.HoldRigRig.unplug.Goals as goal

pub returns-clause-counts : goal.returns-clause-counts
returns-clause-counts c = splat_is_map c.args.ports.items c.len-self.result 0 (omega arith)

pub returns-clause-returned : goal.returns-clause-returned
returns-clause-returned c = splat_is_map c.args.ports.items c.len-self.result [] (omega arith)

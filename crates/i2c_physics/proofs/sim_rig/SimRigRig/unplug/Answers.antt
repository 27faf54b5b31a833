use Rattle.i2c_physics.proofs.Cited.{ap, ◌∙◌, arith, splat_is_map, none_of, unset, []}
use Rattle.i2c_physics.proofs.sim_rig.SimRigRig.unplug.Goals as goal

pub returns-clause-counts : goal.returns-clause-counts
returns-clause-counts c = ap none_of c.take_back.ensures.given ∙ splat_is_map c.args.ports.items c.len-self.result 0 (omega arith)

pub returns-clause-returned : goal.returns-clause-returned
returns-clause-returned c = ap unset c.take_back.ensures.given ∙ splat_is_map c.args.ports.items c.len-self.result [] (omega arith)

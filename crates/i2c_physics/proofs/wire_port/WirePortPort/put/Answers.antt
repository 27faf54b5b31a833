use Rattle.i2c_physics.proofs.Cited.{subst, sym, BitPortView}
use Rattle.i2c_base.specs.Phases.{MayPut}
use Rattle.i2c_physics.proofs.ShowLemmas.{put_kept}
use Rattle.i2c_physics.proofs.wire_port.WirePortPort.put.Goals as goal

pub invariant_of-self : goal.invariant_of-self
invariant_of-self g c =
    let e = c.put.ensures in
    put_kept g.L.Lines.tells c.tell.ensures c.self.inside.port c.put.new.self c.self.invariant c.args.byte
    (subst (λ (v : BitPortView). MayPut v.phase) (sym c.self.view_is) c.requires.phase)
    c.put.result e.faults e.answer e.world e.log e.phase e.seen

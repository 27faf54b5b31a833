use Rattle.i2c_physics.proofs.Cited.{subst, sym, BitPortView}
use Rattle.i2c_base.specs.Phases.{MayGet}
use Rattle.i2c_physics.proofs.ShowLemmas.{get_kept}
use Rattle.i2c_physics.proofs.wire_port.WirePortPort.get.Goals as goal

pub invariant_of-self : goal.invariant_of-self
invariant_of-self g c =
    let e = c.get.ensures in
    get_kept g.L.Lines.tells c.tell.ensures c.self.inside.port c.get.new.self c.self.invariant c.args.ack
    (subst (λ (v : BitPortView). MayGet v.phase) (sym c.self.view_is) c.requires.phase)
    c.get.result e.faults e.answer e.world e.log e.phase e.seen

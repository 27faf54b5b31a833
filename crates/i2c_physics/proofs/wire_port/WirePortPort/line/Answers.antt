use Rattle.i2c_physics.proofs.Cited.{subst, sym, BitPortView}
use Rattle.i2c_base.specs.Phases.{MayLine}
use Rattle.i2c_physics.proofs.ShowLemmas.{line_kept}
use Rattle.i2c_physics.proofs.wire_port.WirePortPort.line.Goals as goal

pub invariant_of-self : goal.invariant_of-self
invariant_of-self g c =
    let e = c.line.ensures in
    line_kept g.L.Lines.tells c.tell.ensures c.self.inside.port c.line.new.self c.self.invariant c.args.mux c.args.level
    (subst (λ (v : BitPortView). MayLine v.phase) (sym c.self.view_is) c.requires.phase)
    c.line.result e.faults e.world e.log e.phase e.seen

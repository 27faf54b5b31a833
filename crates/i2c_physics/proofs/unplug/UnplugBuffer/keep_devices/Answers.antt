use Rattle.i2c_physics.proofs.Cited.{map, arith, AreWorldsOf, nil_by_length}
use Rattle.i2c_physics.proofs.RigLemmas.{devices-kept}
use Rattle.i2c_physics.proofs.unplug.UnplugBuffer.keep_devices.Goals as goal

pub returns : goal.returns
returns g c = record {
  states = λ of.
      let room = c.self.invariant in
      let none = nil_by_length c.self.inside.states.items (omega arith) in
      let of_board : AreWorldsOf c.self.inside.board.value (map (λ p. (g.P.Returned.port p).world) c.args.ports.items) =
      rw c.self.view_is of in
      let kept = devices-kept _ _ _ _ _ room.plain room.homes_are none of_board c.keep_states.ensures.kept
      (λ i h. c.keep_states.ensures.there i (omega arith)) in
      rw (← c.self.view_is) kept;
}

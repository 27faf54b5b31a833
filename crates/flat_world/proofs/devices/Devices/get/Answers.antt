use Rattle.flat_world.proofs.Cited.{List, ap, arith, with_items_is, to_current, TargetState}
use Rattle.i2c_base.specs.declared.event.Event.TheVariants as event
use Rattle.flat_world.proofs.FeedLemmas.{states_told}
use Rattle.flat_world.proofs.devices.Devices.get.Goals as goal

pub returns-clause-after : goal.returns-clause-after
returns-clause-after c =
    let d = c.self.inside in
    let kept = with_items_is d.states c.tell-answer.new.targets (omega arith) in
    rw (← c.self.view_is) (ap (λ (xs : List TargetState). record { states = xs; named = d.named.items; current = d.current })
    (states_told (to_current d.current (event.Get c.args.ack)) d.states.items _ _ _ c.deref_mut.ensures.value c.tell-answer.ensures.fed
    kept))

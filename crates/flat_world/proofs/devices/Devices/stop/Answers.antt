use Rattle.flat_world.proofs.Cited.{List, [], None, ap, ◌∙◌, arith, with_items_is, TargetState, state_table, feed, to_named, to_others}
use Rattle.i2c_base.specs.declared.event.Event.TheVariants as event
use Rattle.flat_world.proofs.FeedLemmas.{states_told}
use Rattle.flat_world.proofs.devices.Devices.stop.Goals as goal

pub returns : goal.returns
returns c =
    let d = c.self.inside in
    let kept = with_items_is d.states c.tell_others.new.targets (omega arith) in
    let fed = c.tell_others.ensures
    ∙ ap (λ ns. feed state_table (to_others None ns event.Stop) 0 c.deref_mut.result.now) c.as_slice.ensures.value in
    let states = states_told (to_named d.named.items event.Stop) d.states.items _ _ _ c.deref_mut.ensures.value fed kept in
    rw (← c.self.view_is, c.clear.ensures) (ap (λ (xs : List TargetState). record { states = xs; named = []; current = None }) states)

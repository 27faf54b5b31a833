use Rattle.i2c_physics.proofs.Cited.{ap, ◌∙◌, arith, not, filter, with_items, with_items_is, chip_table, after, state_table, joins_at}
use Rattle.i2c_base.specs.declared.event.Event.TheVariants as event
use Rattle.i2c_base.specs.declared.port.PortCall.TheVariants as call
use Rattle.i2c_physics.proofs.FeedLemmas.{AreParted, fed-on, stopped-kept, stopped-is}
use Rattle.i2c_physics.proofs.NumberLemmas.{rising-filter}
use Rattle.i2c_physics.proofs.sim_world.SimWorld.stop.Goals as goal

pub end-requires-clause-told : goal.end-requires-clause-told
end-requires-clause-told c = rw (c.part.ensures.told, c.deref_mut.ensures.value)
    (rising-filter _ 0 _ _ c.self.invariant.chips_reached.started_rise)

pub end-requires-2-clause-told : goal.end-requires-2-clause-told
end-requires-2-clause-told c = rw (c.part-2.ensures.told, c.deref_mut-2.ensures.value)
    (rising-filter _ 0 _ _ c.self.invariant.devices_reached.started_rise)

-- what is left of the two lists
parted : (c : goal.After-chips_are_fair)
    → AreParted c.self.inside.mux_places c.self.inside.device_places c.self.inside.chips.items c.self.inside.devices.items
    c.self.inside.chip_reach c.self.inside.device_reach (with_items c.self.inside.chips c.end.new.targets).items
    (with_items c.self.inside.devices c.end-2.new.targets).items
parted c =
    let s = c.self.inside in
    let same = c.as_slice-chips.ensures.value in
    record {
      of_chips =
          fed-on chip_table event.Stop _ _ _ _
          (c.part.ensures.told ∙ ap (λ cs. filter (joins_at cs s.mux_places) s.chip_reach.started) same)
          c.deref_mut.ensures.value _ _ (with_items_is s.chips c.end.new.targets (omega arith)) c.end.ensures.fed;
      of_devices =
          fed-on state_table event.Stop _ _ _ _
          (c.part-2.ensures.told ∙ ap (λ cs. filter (joins_at cs s.device_places) s.device_reach.started) same)
          c.deref_mut-2.ensures.value _ _ (with_items_is s.devices c.end-2.new.targets (omega arith)) c.end-2.ensures.fed;
    }

pub invariant_of-self : goal.invariant_of-self
invariant_of-self c =
    let s = c.self.inside in
    let same = c.as_slice-chips.ensures.value in
    stopped-kept _ _ _ _ _ _ _ _ s.busy c.self.invariant _ _ (parted c) c.chips_are_fair.ensures.stops _ _
    (c.end.ensures.started ∙ c.part.ensures.rest
    ∙ ap (λ cs. filter (λ k. not (joins_at cs s.mux_places k)) s.chip_reach.started) same)
    c.end.ensures.hearing
    (c.end-2.ensures.started ∙ c.part-2.ensures.rest
    ∙ ap (λ cs. filter (λ k. not (joins_at cs s.device_places k)) s.device_reach.started) same)
    c.end-2.ensures.hearing

pub returns : goal.returns
returns c =
    rw (c.end.ensures.hearing, c.end-2.ensures.hearing)
    (stopped-is _ _ _ _ _ _ _ _ c.self.inside.busy c.self.invariant _ _ (parted c)) ∙ ap (λ w. after w call.Stop) c.self.view_is

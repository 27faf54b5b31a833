use Rattle.i2c_physics.proofs.Cited.{length, ap, ◌∙◌, arith, with_items, with_items_is, chip_table, after, answer, state_table}
use Rattle.i2c_physics.proofs.Cited.{wired_and_of, numbers_of, addressed, others}
use Rattle.i2c_base.specs.declared.event.Event.TheVariants as event
use Rattle.i2c_base.specs.declared.port.PortCall.TheVariants as call
use Rattle.i2c_physics.proofs.FeedLemmas.{AreBegun, begun-on, said-on, either-on, start-by, calls-chips, calls-devices, other-chips}
use Rattle.i2c_physics.proofs.FeedLemmas.{other-devices, started-kept, started-is, started-answer}
use Rattle.i2c_physics.proofs.sim_world.SimWorld.start.Goals as goal

pub begin-chips-requires-clause-told : goal.begin-chips-requires-clause-told
begin-chips-requires-clause-told c =
    let same = c.as_slice-chips.ensures.value in
    let chip_calls = c.call.ensures.told ∙ ap (λ cs. addressed cs c.self.inside.mux_places c.args.addr) same in
    rw (c.deref_mut.ensures.value, chip_calls) (calls-chips _ _ _ _ _ _ _ _ c.self.inside.busy c.self.invariant c.args.addr c.args.reading)

pub begin-chips-requires-clause-rest : goal.begin-chips-requires-clause-rest
begin-chips-requires-clause-rest c =
    let same = c.as_slice-chips.ensures.value in
    let chip_rest = c.call.ensures.rest
    ∙ ap (λ cs. others cs c.self.inside.mux_places c.args.addr c.self.inside.chip_reach.started) same in
    rw (c.deref_mut.ensures.value, chip_rest) (other-chips _ _ _ _ _ _ _ _ c.self.inside.busy c.self.invariant c.args.addr c.args.reading)

pub begin-devices-requires-clause-told : goal.begin-devices-requires-clause-told
begin-devices-requires-clause-told c =
    let same = c.as_slice-chips.ensures.value in
    let device_calls = c.call-2.ensures.told ∙ ap (λ cs. addressed cs c.self.inside.device_places c.args.addr) same in
    rw (c.deref_mut-2.ensures.value, device_calls)
    (calls-devices _ _ _ _ _ _ _ _ c.self.inside.busy c.self.invariant c.args.addr c.args.reading)

pub begin-devices-requires-clause-rest : goal.begin-devices-requires-clause-rest
begin-devices-requires-clause-rest c =
    let same = c.as_slice-chips.ensures.value in
    let device_rest = c.call-2.ensures.rest
    ∙ ap (λ cs. others cs c.self.inside.device_places c.args.addr c.self.inside.device_reach.started) same in
    rw (c.deref_mut-2.ensures.value, device_rest)
    (other-devices _ _ _ _ _ _ _ _ c.self.inside.busy c.self.invariant c.args.addr c.args.reading)

-- what the two lists are after it, and whom they say has heard it
begun : (c : goal.After-answer_of)
    → AreBegun c.self.inside.mux_places c.self.inside.device_places c.self.inside.chips.items c.self.inside.devices.items
    c.self.inside.chip_reach c.self.inside.device_reach (with_items c.self.inside.chips c.begin-chips.new.targets).items
    (with_items c.self.inside.devices c.begin-devices.new.targets).items c.args.addr c.args.reading
    c.begin-chips.new.reach c.begin-devices.new.reach
begun c =
    let s = c.self.inside in
    let e = event.Start c.args.reading in
    let same = c.as_slice-chips.ensures.value in
    let chip_calls = c.call.ensures.told ∙ ap (λ cs. addressed cs s.mux_places c.args.addr) same in
    let chip_rest = c.call.ensures.rest ∙ ap (λ cs. others cs s.mux_places c.args.addr s.chip_reach.started) same in
    let device_calls = c.call-2.ensures.told ∙ ap (λ cs. addressed cs s.device_places c.args.addr) same in
    let device_rest = c.call-2.ensures.rest ∙ ap (λ cs. others cs s.device_places c.args.addr s.device_reach.started) same in
    record {
      of_chips =
          begun-on chip_table e chip_calls c.deref_mut.ensures.value _ _ chip_rest _ _
          (with_items_is s.chips c.begin-chips.new.targets (omega arith)) c.begin-chips.ensures.fed;
      of_devices =
          begun-on state_table e device_calls c.deref_mut-2.ensures.value _ _ device_rest _ _
          (with_items_is s.devices c.begin-devices.new.targets (omega arith)) c.begin-devices.ensures.fed;
      chips_heard =
          said-on chip_table e _ _ _ _ chip_calls c.deref_mut.ensures.value numbers_of _ c.begin-chips.ensures.hearing;
      devices_heard =
          said-on state_table e _ _ _ _ device_calls c.deref_mut-2.ensures.value numbers_of _ c.begin-devices.ensures.hearing;
    }

pub invariant_of-self : goal.invariant_of-self
invariant_of-self c =
    let s = c.self.inside in
    let same = c.as_slice-chips.ensures.value in
    let chip_calls = c.call.ensures.told ∙ ap (λ cs. addressed cs s.mux_places c.args.addr) same in
    let device_calls = c.call-2.ensures.told ∙ ap (λ cs. addressed cs s.device_places c.args.addr) same in
    started-kept _ _ _ _ _ _ _ _ s.busy c.self.invariant c.args.addr c.args.reading _ _ _ _ (begun c)
    (c.begin-chips.ensures.started ∙ either-on (ap length c.deref_mut.ensures.value) (c.call.ensures.started) chip_calls)
    (c.begin-devices.ensures.started
    ∙ either-on (ap length c.deref_mut-2.ensures.value) (c.call-2.ensures.started) device_calls)

pub returns-clause-answer : goal.returns-clause-answer
returns-clause-answer c =
    let s = c.self.inside in
    let e = event.Start c.args.reading in
    let same = c.as_slice-chips.ensures.value in
    let chip_calls = c.call.ensures.told ∙ ap (λ cs. addressed cs c.self.inside.mux_places c.args.addr) same in
    let device_calls = c.call-2.ensures.told ∙ ap (λ cs. addressed cs c.self.inside.device_places c.args.addr) same in
    let chips = said-on chip_table e _ _ _ _ chip_calls c.deref_mut.ensures.value wired_and_of _ c.begin-chips.ensures.answered in
    let devices = said-on state_table e _ _ _ _ device_calls c.deref_mut-2.ensures.value wired_and_of _ c.begin-devices.ensures.answered in
    c.answer_of.ensures ∙ start-by chips devices
    ∙ started-answer _ _ _ _ _ _ _ _ s.busy c.self.invariant c.args.addr c.args.reading
    ∙ ap (λ w. answer w c.args.addr c.args.reading) c.self.view_is

pub returns-clause-after : goal.returns-clause-after
returns-clause-after c =
    started-is _ _ _ _ _ _ _ _ c.self.inside.busy c.self.invariant c.args.addr c.args.reading _ _ _ _ (begun c)
    ∙ ap (λ w. after w (call.Start c.args.addr c.args.reading)) c.self.view_is

use Rattle.i2c_physics.proofs.Cited.{ap, ◌∙◌, refl, arith, with_items_is, chip_table, sent_on, state_table, wired_and_of, chips_say}
use Rattle.i2c_physics.proofs.Cited.{devices_say}
use Rattle.i2c_physics.proofs.FeedLemmas.{fed-on, said-on, chips-answer, devices-answer, sent-kept, sent-is}
use Rattle.i2c_physics.proofs.sim_world.SimWorld.send.Goals as goal

pub invariant_of-self : goal.invariant_of-self
invariant_of-self c =
    let s = c.self.inside in
    let e = c.args.event in
    let chips = fed-on chip_table e _ _ _ _ refl c.deref_mut.ensures.value _ _
    (with_items_is s.chips c.deliver-chips.new.targets (omega arith)) c.deliver-chips.ensures.fed in
    let devices = fed-on state_table e _ _ _ _ refl c.deref_mut-2.ensures.value _ _
    (with_items_is s.devices c.deliver-devices.new.targets (omega arith)) c.deliver-devices.ensures.fed in
    sent-kept _ _ _ _ _ _ _ _ s.busy c.self.invariant e _ _ chips devices _ _
    c.deliver-chips.ensures.started c.deliver-chips.ensures.hearing c.deliver-devices.ensures.started c.deliver-devices.ensures.hearing

pub returns-clause-chips : goal.returns-clause-chips
returns-clause-chips c =
    let s = c.self.inside in
    let said = said-on chip_table c.args.event _ _ _ _ refl c.deref_mut.ensures.value wired_and_of _ c.deliver-chips.ensures.answered in
    said ∙ ap wired_and_of (chips-answer _ _ _ _ _ _ _ _ s.busy c.self.invariant c.args.event)
    ∙ ap (λ w. chips_say w c.args.event) c.self.view_is

pub returns-clause-devices : goal.returns-clause-devices
returns-clause-devices c =
    let s = c.self.inside in
    let said = said-on state_table c.args.event _ _ _ _ refl c.deref_mut-2.ensures.value wired_and_of _ c.deliver-devices.ensures.answered
    in
    said ∙ ap wired_and_of (devices-answer _ _ _ _ _ _ _ _ s.busy c.self.invariant c.args.event)
    ∙ ap (λ w. devices_say w c.args.event) c.self.view_is

pub returns-clause-after : goal.returns-clause-after
returns-clause-after c =
    let s = c.self.inside in
    let e = c.args.event in
    let chips = fed-on chip_table e _ _ _ _ refl c.deref_mut.ensures.value _ _
    (with_items_is s.chips c.deliver-chips.new.targets (omega arith)) c.deliver-chips.ensures.fed in
    let devices = fed-on state_table e _ _ _ _ refl c.deref_mut-2.ensures.value _ _
    (with_items_is s.devices c.deliver-devices.new.targets (omega arith)) c.deliver-devices.ensures.fed in
    sent-is _ _ _ _ _ _ _ _ s.busy c.self.invariant e _ _ chips devices c.deliver-chips.new.reach c.deliver-devices.new.reach
    c.deliver-chips.ensures.started c.deliver-chips.ensures.hearing c.deliver-devices.ensures.started c.deliver-devices.ensures.hearing
    ∙ ap (λ w. sent_on w e) c.self.view_is

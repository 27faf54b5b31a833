use Rattle.flat_world.proofs.Cited.{ap, ◌∙◌, arith, with_items_is, feed, has_heard, state_table, answer_in, to_others}
use Rattle.std.specs.Prelude.{None, if◌then◌else◌}
use Rattle.std.specs.Vec.{with_items}
use Rattle.i2c_base.specs.declared.event.Event.TheVariants as event
use Rattle.flat_world.proofs.FeedLemmas.{states_started, states_answer, same_listener}
use Rattle.flat_world.proofs.devices.Devices.start.Goals as goal

pub returns-clause-after : goal.returns-clause-after
returns-clause-after c =
    let d = c.self.inside in
    let granted = c.args.granted in
    let start = event.Start c.args.reading in
    let told = with_items_is d.states c.tell-answer.new.targets (omega arith) in
    let others = with_items_is (with_items d.states c.tell-answer.new.targets) c.tell_others.new.targets (omega arith) in
    let fed = c.tell_others.ensures
    ∙ ap (λ ns. feed state_table (to_others granted ns event.Other) 0 c.deref_mut-2.result.now) c.as_slice.ensures.value in
    let states = states_started granted d.named.items c.args.reading d.states.items _ _ _ _ _ _ c.deref_mut.ensures.value
    c.tell-answer.ensures.fed told c.deref_mut-2.ensures.value fed others in
    let said = c.tell-answer.ensures.answer ∙ ap (λ ds. answer_in state_table ds granted start) c.deref_mut.ensures.value
    ∙ states_answer d.states.items granted start in
    let listens = c.listener-self-inside.ensures ∙ ap (λ a. if has_heard a then granted else None) said in
    rw (← c.self.view_is) (same_listener _ _ _ _ _ _ states c.name.ensures.items listens)

use Rattle.i2c_physics.proofs.Cited.{◌≡◌, length, ap, ◌∙◌, arith, answers, feed, wired_and_of, numbers_of, to_those, union_of}
use Rattle.i2c_base.specs.declared.event.Event.TheVariants as event
use Rattle.i2c_physics.proofs.wired_and.begin.Goals as goal

pub tell-others-requires-clause-few : goal.tell-others-requires-clause-few
tell-others-requires-clause-few g c = omega (arith, c.requires.few, c.tell-wired_and.auto.targets)

pub tell-others-requires-clause-rising : goal.tell-others-requires-clause-rising
tell-others-requires-clause-rising g c =
    let same : length c.tell-wired_and.new.targets ≡ length c.args.targets.now = omega (arith, c.tell-wired_and.auto.targets) in
    rw (same, c.as_slice-2.ensures.value) c.requires.rest

pub add_told-requires-clause-few : goal.add_told-requires-clause-few
add_told-requires-clause-few g c = omega (arith, c.requires.few, c.tell-wired_and.auto.targets, c.tell-others.auto.targets)

pub add_told-requires-clause-started : goal.add_told-requires-clause-started
add_told-requires-clause-started g c =
    let same : length c.tell-others.new.targets ≡ length c.args.targets.now = omega
    (arith, c.tell-wired_and.auto.targets, c.tell-others.auto.targets) in
    rw same c.requires.started

pub add_told-requires-clause-told : goal.add_told-requires-clause-told
add_told-requires-clause-told g c =
    let same : length c.tell-others.new.targets ≡ length c.args.targets.now = omega
    (arith, c.tell-wired_and.auto.targets, c.tell-others.auto.targets) in
    rw same c.requires.told

pub returns-clause-fed : goal.returns-clause-fed
returns-clause-fed g c =
    let t = g.T.Target.table in
    let start = event.Start c.args.reading in
    c.tell-others.ensures.fed ∙ ap (λ ns. feed t (to_those ns event.Other) 0 c.tell-wired_and.new.targets) c.as_slice-2.ensures.value
    ∙ ap (feed t (to_those c.args.reach.now.rest event.Other) 0)
    (c.tell-wired_and.ensures.fed ∙ ap (λ ns. feed t (to_those ns start) 0 c.args.targets.now) c.as_slice.ensures.value)

pub returns-clause-answered : goal.returns-clause-answered
returns-clause-answered g c =
    let start = event.Start c.args.reading in
    c.tell-wired_and.ensures.answered
    ∙ ap (λ ns. wired_and_of (answers g.T.Target.table (to_those ns start) 0 c.args.targets.now)) c.as_slice.ensures.value

pub returns-clause-hearing : goal.returns-clause-hearing
returns-clause-hearing g c =
    let start = event.Start c.args.reading in
    c.add_told.ensures.hearing ∙ c.tell-wired_and.ensures.heard
    ∙ ap (λ ns. numbers_of (answers g.T.Target.table (to_those ns start) 0 c.args.targets.now)) c.as_slice.ensures.value

pub returns-clause-started : goal.returns-clause-started
returns-clause-started g c =
    let same : length c.tell-others.new.targets ≡ length c.args.targets.now = omega
    (arith, c.tell-wired_and.auto.targets, c.tell-others.auto.targets) in
    c.add_told.ensures.started ∙ ap (λ n. union_of n c.args.reach.now.started c.args.reach.now.addressed) same

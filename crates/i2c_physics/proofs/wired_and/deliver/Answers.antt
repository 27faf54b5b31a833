use Rattle.i2c_physics.proofs.Cited.{◌<◌, length, ap, ◌∙◌, sym, arith, wired_and_of}
use Rattle.i2c_physics.proofs.AloneLemmas.{nobody-fed, nobody-answered}
use Rattle.i2c_physics.proofs.wired_and.deliver.Goals as goal

pub returns-in-empty-clause-fed : goal.returns-in-empty-clause-fed
returns-in-empty-clause-fed g c =
    let none : length c.args.reach.now.hearing < 1 = omega (arith, c.in-empty.len_below, ap length c.as_slice.ensures.value) in
    nobody-fed g.T.Target.table c.args.event c.args.targets.now c.args.reach.now.hearing none

pub returns-in-empty-clause-answered : goal.returns-in-empty-clause-answered
returns-in-empty-clause-answered g c =
    let none : length c.args.reach.now.hearing < 1 = omega (arith, c.in-empty.len_below, ap length c.as_slice.ensures.value) in
    c.silence.ensures
    ∙ ap wired_and_of (sym (nobody-answered g.T.Target.table c.args.event c.args.targets.now c.args.reach.now.hearing none))

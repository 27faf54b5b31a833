use Rattle.i2c_physics.proofs.Cited.{[], ap, ◌∙◌, sym, wired_and_of}
use Rattle.i2c_physics.proofs.AloneLemmas.{alone-fed, alone-answered}
use Rattle.i2c_physics.proofs.wired_and.tell_one.Goals as goal

pub returns-clause-fed : goal.returns-clause-fed
returns-clause-fed g c =
    alone-fed g.T.Target.table c.args.event c.args.targets.now c.args.number c.from.result c.from.ensures c.index-targets-from.result
    c.requires c.on.new.self c.on.ensures.after

pub returns-clause-answered : goal.returns-clause-answered
returns-clause-answered g c =
    c.add.ensures c.args.number [] c.silence-wired_and.ensures
    ∙ ap wired_and_of (sym (alone-answered g.T.Target.table c.args.event c.args.targets.now c.args.number c.from.result c.from.ensures
    c.index-targets-from.result c.requires c.on.result c.on.ensures.answer))

use Rattle.flat_world.proofs.FeedLemmas.{told_fed}
use Rattle.flat_world.proofs.devices.tell_at.Goals as goal

pub returns-then-place-targets-clause-fed : goal.returns-then-place-targets-clause-fed
returns-then-place-targets-clause-fed g c =
    told_fed g.T.Target.table c.args.place c.args.event c.args.targets.now c.index-targets-place.result c.on.new.self
    c.if-place-targets.true c.on.ensures.after

use Rattle.i2c_physics.proofs.Cited.{subst, sym}
use Rattle.i2c_physics.specs.FailPorts.{HaveFailedJustAt, fails_given, logs_given}
use Rattle.i2c_physics.proofs.MarkLemmas.{given-just}
use Rattle.i2c_physics.proofs.fail_rig.FailRig.failed_where_told.Goals as goal

pub returns-in-Some : goal.returns-in-Some
returns-in-Some c =
    subst (λ g. HaveFailedJustAt (fails_given g) (logs_given g)) (sym c.in-Some.is) (given-just c.in-Some.given c.fail_as_listed.ensures)

use Rattle.i2c_physics.proofs.Cited.{ap, ◌∙◌, arith}
use Rattle.std.proofs.Common.{Err}
use Rattle.ports.specs.Causes.{counted}
use Rattle.i2c_physics.proofs.fail_rig.FailRigRig.plug.Goals as goal

pub returns-then-self-clause-exact : goal.returns-then-self-clause-exact
returns-then-self-clause-exact c = (λ failed. c.if-self.true, λ told. ap (λ f. Err f) c.refuse.ensures.fail)

pub returns-then-self-clause-unplugged : goal.returns-then-self-clause-unplugged
returns-then-self-clause-unplugged c = ap (λ r. r.room) c.refuse.ensures.after ∙ ap (λ r. r.room) c.begin.ensures

pub returns-then-self-clause-kept : goal.returns-then-self-clause-kept
returns-then-self-clause-kept c = ap (λ r. r.kept) c.refuse.ensures.after ∙ ap (λ r. r.kept) c.begin.ensures

pub returns-then-self-clause-plugs : goal.returns-then-self-clause-plugs
returns-then-self-clause-plugs c = ap (λ r. r.plugs) c.refuse.ensures.after ∙ ap (λ r. r.plugs) c.begin.ensures

pub returns-then-self-clause-unplugs : goal.returns-then-self-clause-unplugs
returns-then-self-clause-unplugs c = ap (λ r. r.unplugs) c.refuse.ensures.after ∙ ap (λ r. r.unplugs) c.begin.ensures

pub returns-then-self-clause-later : goal.returns-then-self-clause-later
returns-then-self-clause-later c = omega (arith, c.refuse.ensures.later, ap (λ r. r.faults) c.begin.ensures)

pub returns-then-self-clause-fault : goal.returns-then-self-clause-fault
returns-then-self-clause-fault c = λ failed. ap (λ r. r.faults) c.refuse.ensures.after ∙ ap (λ r. counted r.faults) c.begin.ensures

pub returns-then-self-clause-calm : goal.returns-then-self-clause-calm
returns-then-self-clause-calm c = λ other. absurd (other (ap (λ f. Err f) c.refuse.ensures.fail))

use Rattle.tools.proofs.Cited.{refl}
use Rattle.tools.specs.Tables.{parts}
use Rattle.tools.proofs.examples.a_refused_device_has_no_table.Goals as goal

pub returns : goal.returns
unfolding parts
returns c = λ b. (refl, refl)

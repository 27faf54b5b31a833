use Rattle.tools.proofs.Cited.{refl}
use Rattle.tools.specs.Tables.{parts}
use Rattle.tools.proofs.examples.without_the_number_no_register_is_read.Goals as goal

pub returns : goal.returns
unfolding parts
returns c = λ b. (refl, refl)

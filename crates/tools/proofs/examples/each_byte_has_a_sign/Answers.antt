use Rattle.tools.proofs.Cited.{refl}
use Rattle.tools.specs.Tables.{parts}
use Rattle.tools.proofs.examples.each_byte_has_a_sign.Goals as goal

pub returns : goal.returns
unfolding parts
returns c = record { signs = λ b. refl; trimmed = λ b. refl }

use Rattle.tools.proofs.Cited.{refl}
use Rattle.tools.specs.Tables.{parts}
use Rattle.tools.proofs.examples.a_table_tells_who_answers.Goals as goal

pub returns : goal.returns
unfolding parts
returns c = refl

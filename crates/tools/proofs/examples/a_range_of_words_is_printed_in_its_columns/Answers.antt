use Rattle.tools.proofs.Cited.{refl}
use Rattle.tools.specs.Tables.{parts}
use Rattle.tools.proofs.examples.a_range_of_words_is_printed_in_its_columns.Goals as goal

pub returns : goal.returns
unfolding parts
returns c = λ b. refl

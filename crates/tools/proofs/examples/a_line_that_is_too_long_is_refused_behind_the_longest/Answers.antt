use Rattle.tools.proofs.Cited.{refl}
use Rattle.tools.specs.Commands.{grammar}
use Rattle.tools.specs.Gets.{get_words, get_bus, get_reg, get_len}
use Rattle.tools.specs.Options.{force_and_yes}
use Rattle.tools.proofs.examples.a_line_that_is_too_long_is_refused_behind_the_longest.Goals as goal

pub returns : goal.returns
unfolding grammar get_words get_bus get_reg get_len force_and_yes
returns c = record { longest = refl; longer = refl }

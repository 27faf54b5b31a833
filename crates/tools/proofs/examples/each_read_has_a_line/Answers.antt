use Rattle.tools.proofs.Cited.{refl}
use Rattle.tools.specs.Combined.{combined_words, combined_bus, descs, data_words, counted}
use Rattle.tools.specs.Commands.{grammar}
use Rattle.tools.specs.Options.{force_and_yes}
use Rattle.tools.proofs.examples.each_read_has_a_line.Goals as goal

pub returns-clause-line : goal.returns-clause-line
unfolding combined_words combined_bus descs data_words counted grammar force_and_yes
returns-clause-line c = refl

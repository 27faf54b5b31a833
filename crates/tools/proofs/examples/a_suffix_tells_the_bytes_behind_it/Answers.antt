use Rattle.tools.proofs.Cited.{refl}
use Rattle.tools.specs.Combined.{combined_words, combined_bus, descs, data_words, counted}
use Rattle.tools.specs.Commands.{grammar}
use Rattle.tools.specs.Options.{force_and_yes}
use Rattle.tools.proofs.examples.a_suffix_tells_the_bytes_behind_it.Goals as goal

pub returns : goal.returns
unfolding combined_words combined_bus descs data_words counted grammar force_and_yes
returns c = record { last = refl; same = refl; down = refl; behind = refl }

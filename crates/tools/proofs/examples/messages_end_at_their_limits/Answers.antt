use Rattle.tools.proofs.Cited.{refl}
use Rattle.tools.specs.Combined.{combined_words, combined_bus, descs, data_words, counted}
use Rattle.tools.specs.Commands.{grammar}
use Rattle.tools.specs.Options.{force_and_yes}
use Rattle.tools.proofs.examples.messages_end_at_their_limits.Goals as goal

pub returns : goal.returns
unfolding combined_words combined_bus descs data_words counted grammar force_and_yes
returns c = record { many = refl; large = refl }

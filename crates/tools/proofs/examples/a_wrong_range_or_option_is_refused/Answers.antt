use Rattle.tools.proofs.Cited.{refl}
use Rattle.tools.specs.Commands.{grammar}
use Rattle.tools.specs.Dumps.{dump_words, dump_options, dump_bus, dump_tail}
use Rattle.tools.specs.Options.{force_and_yes}
use Rattle.tools.proofs.examples.a_wrong_range_or_option_is_refused.Goals as goal

pub returns : goal.returns
unfolding grammar force_and_yes dump_words dump_options dump_bus dump_tail
returns c = record { block = refl; order = refl; twice = refl; missing = refl; read = refl }

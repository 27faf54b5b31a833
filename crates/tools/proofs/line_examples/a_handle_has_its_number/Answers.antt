use Rattle.tools.proofs.Cited.{refl}
use Rattle.tools.specs.Commands.{grammar}
use Rattle.tools.specs.DriverLines.{driver_lines}
use Rattle.tools.specs.HandleLines.{handle_lines, pec_words}
use Rattle.tools.proofs.line_examples.a_handle_has_its_number.Goals as goal

pub returns : goal.returns
unfolding grammar driver_lines handle_lines pec_words
returns c = record { last = refl; past = refl; word = refl }

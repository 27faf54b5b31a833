use Rattle.tools.proofs.Cited.{refl}
use Rattle.tools.specs.Commands.{grammar}
use Rattle.tools.specs.Detects.{probe_and_yes, detect_range, detect_bus, detect_words}
use Rattle.tools.proofs.examples.last_is_not_below_first.Goals as goal

pub returns : goal.returns
unfolding grammar probe_and_yes detect_range detect_bus detect_words
returns c = record { below = refl; alone = refl; both = refl; bus = refl; all = refl }

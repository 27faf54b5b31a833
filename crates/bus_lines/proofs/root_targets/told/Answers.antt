use Rattle.bus_lines.proofs.Cited.{[], refl}
use Rattle.bus_lines.proofs.NumbersLemmas.{no_numbers}
use Rattle.bus_lines.proofs.root_targets.told.Goals as goal

pub returns-then-is_coming-clause-numbers : goal.returns-then-is_coming-clause-numbers
returns-then-is_coming-clause-numbers c = no_numbers c.args.live.now.room [] refl

use Rattle.tools.proofs.Cited.{refl}
use Rattle.std.specs.Fmt.{digits}
use Rattle.tools.proofs.examples.the_buses_are_listed_by_number.Goals as goal

pub returns-clause-lines : goal.returns-clause-lines
unfolding digits
returns-clause-lines c = refl

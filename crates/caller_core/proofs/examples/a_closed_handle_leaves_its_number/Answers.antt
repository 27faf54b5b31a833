use Rattle.caller_core.proofs.Cited.{refl}
use Rattle.std.specs.Fmt.{digits}
use Rattle.caller_core.proofs.examples.a_closed_handle_leaves_its_number.Goals as goal

pub returns-clause-next : goal.returns-clause-next
unfolding digits
returns-clause-next c = refl

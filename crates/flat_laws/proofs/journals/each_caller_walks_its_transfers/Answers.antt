use Rattle.flat_laws.proofs.walk.Rule.{transfers-kept}
use Rattle.flat_laws.proofs.journals.each_caller_walks_its_transfers.Goals as goal

pub returns : goal.returns
returns c =
    λ b callers asks past some steps none_due. transfers-kept b asks some callers past steps none_due

use Rattle.bus_laws.proofs.past.Placed.{settles-kept}
use Rattle.bus_laws.proofs.journals.each_settle_stands_where_it_is_decided.Goals as goal

pub returns : goal.returns
returns c =
    λ b callers asks past some steps. settles-kept b asks some callers past steps

use Rattle.tools.proofs.LineLemmas.{means_in_range}
use Rattle.tools.proofs.laws.each_field_is_in_range.Goals as goal

pub returns : goal.returns
returns c = means_in_range

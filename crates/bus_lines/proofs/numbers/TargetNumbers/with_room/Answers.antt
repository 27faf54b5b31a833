use Rattle.bus_lines.proofs.Cited.{vec_capacity}
use Rattle.bus_lines.proofs.NumbersLemmas.{no_numbers}
use Rattle.bus_lines.proofs.numbers.TargetNumbers.with_room.Goals as goal

pub invariant_of-result : goal.invariant_of-result
invariant_of-result c = (
  no_numbers (vec_capacity c.in_ok-with_capacity.field-0) c.in_ok-with_capacity.field-0.items c.in_ok-with_capacity.ensures.items,
  rw c.in_ok-with_capacity.ensures.exact c.requires,
)

use Rattle.bus_lines.proofs.Cited.{vec_capacity}
use Rattle.bus_lines.proofs.NumbersLemmas.{no_numbers}
use Rattle.bus_lines.proofs.numbers.TargetNumbers.clear.Goals as goal

pub invariant_of-self : goal.invariant_of-self
invariant_of-self c = (
  no_numbers (vec_capacity c.clear.new.self) c.clear.new.self.items c.clear.ensures.items,
  rw c.clear.ensures.capacity c.self.invariant.1,
)

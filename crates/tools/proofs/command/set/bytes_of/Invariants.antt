use Rattle.tools.proofs.Cited.{◌≡◌, take}
use Rattle.tools.proofs.command.set.bytes_of.Given as goal

abbrev pub invariant-loop-value : goal.invariant-loop-value
invariant-loop-value l = l.bytes ≡ take l.value-index l.values

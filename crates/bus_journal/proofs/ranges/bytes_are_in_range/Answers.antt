use Rattle.bus_journal.proofs.Cited.{arith}
use Rattle.std.proofs.lemmas.Grind.{get_or_default_zero}
use Rattle.bus_journal.proofs.ranges.bytes_are_in_range.Goals as goal

pub returns : goal.returns
returns c = λ k d within. let first = get_or_default_zero c.args.bytes.now k d within in omega (arith, c.type_inv.bytes k)

use Rattle.i2c_top.proofs.Cited.{All, flat_map, take, IsEntry}
use Rattle.i2c_top.proofs.run.are_in_range.Given as goal

abbrev pub invariant-loop-journal : goal.invariant-loop-journal
invariant-loop-journal l = All IsEntry (flat_map (λ j. j.entries) (take l.journal-index l.journals))

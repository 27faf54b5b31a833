use Rattle.bus_journal.proofs.Cited.{length}
use Rattle.bus_journal.proofs.TallyLemmas.{IsCounted}
use Rattle.bus_journal.proofs.tally.tally_of.Given as goal

abbrev pub decreases-loop-rest : goal.decreases-loop-rest
decreases-loop-rest l = length l.rest

abbrev pub invariant-loop-rest : goal.invariant-loop-rest
invariant-loop-rest l = IsCounted l.journal.entries l.initial.rest l.rest l.tally

use Rattle.journal_check.proofs.Cited.{◌≡◌, roots_in, entries_of}
use Rattle.journal_check.proofs.StepLemmas.{IsFollowing}
use Rattle.journal_check.proofs.steps.follow_told.Given as goal

abbrev pub invariant-loop-rest : goal.invariant-loop-rest
invariant-loop-rest g l = record {
  follows : IsFollowing g.C.Caller.asked l.fn.core.opening l.lines (entries_of l.lines) l.core l.rest;
  roots : roots_in l.core ≡ roots_in l.fn.core;
}

abbrev pub decreases-loop-rest : goal.decreases-loop-rest
decreases-loop-rest g l = l.core.journal.room

use Rattle.bus_core.proofs.Cited.{ℕ, List, [], Entry, IsCore, HasCome, KeepsSchedule}
use Rattle.bus_core.proofs.running.finish.Given as goal

abbrev pub invariant-steps : goal.invariant-steps
invariant-steps g l = record {
  core : IsCore g.P.Port g.C.Caller l.parts;
  come : HasCome g.P.Port g.C.Caller l.fn.parts l.parts;
  keeps : (words : List ℕ) (from : List Entry) → KeepsSchedule g.P.Port g.C.Caller words from [] l.fn.parts
      → KeepsSchedule g.P.Port g.C.Caller words from [] l.parts;
}

abbrev pub decreases-steps : goal.decreases-steps
decreases-steps g l = l.parts.journal.room

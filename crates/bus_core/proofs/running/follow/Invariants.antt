use Rattle.bus_core.proofs.Cited.{◌≡◌, length, reverse, drop, IsCore, HasCome, KeepsSchedule}
use Rattle.bus_core.proofs.running.follow.Given as goal

abbrev pub invariant-loop-place : goal.invariant-loop-place
invariant-loop-place g l = record {
  end_is : l.place-end ≡ length l.words;
  core : IsCore g.P.Port g.C.Caller l.parts;
  come : HasCome g.P.Port g.C.Caller l.fn.parts l.parts;
  keeps : KeepsSchedule g.P.Port g.C.Caller l.words (reverse l.fn.parts.journal.entries) (drop l.place l.words) l.parts;
}

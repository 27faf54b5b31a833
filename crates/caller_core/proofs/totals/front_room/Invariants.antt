use Rattle.caller_core.proofs.Cited.{◌≡◌, ◌+◌, drop, front_room}
use Rattle.caller_core.proofs.totals.front_room.Given as goal

abbrev pub invariant-loop-at : goal.invariant-loop-at
invariant-loop-at l = l.room + front_room (drop l.at l.commands) ≡ front_room l.commands

use Rattle.caller_core.proofs.Cited.{◌≡◌, ◌+◌, drop, room_of}
use Rattle.std.proofs.Common.{sum_by}
use Rattle.caller_core.proofs.totals.room_from.Given as goal

abbrev pub invariant-loop-at : goal.invariant-loop-at
invariant-loop-at l = l.room + sum_by room_of (drop l.at l.commands) ≡ sum_by room_of (drop l.turn l.commands)

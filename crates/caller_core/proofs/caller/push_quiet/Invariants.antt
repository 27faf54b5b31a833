use Rattle.caller_core.proofs.Cited.{length, ◌-◌, ◌≡◌, ◌+◌, ◌≤◌, ◌++◌, drop, front_room, quiet_text, quiet_front}
use Rattle.caller_core.proofs.caller.push_quiet.Given as goal

abbrev pub decreases-loop-at : goal.decreases-loop-at
decreases-loop-at l = length l.commands - l.at

abbrev pub invariant-loop-at : goal.invariant-loop-at
invariant-loop-at l =
    record {
      within : l.at ≤ length l.commands;
      behind : l.at + quiet_front (drop l.at l.commands) ≡ l.fn.turn + quiet_front (drop l.fn.turn l.commands);
      bytes : l.out.bytes ++ quiet_text (drop l.at l.commands) ≡ l.fn.out.bytes ++ quiet_text (drop l.fn.turn l.commands);
      room : l.fn.out.room + front_room (drop l.at l.commands) ≤ l.out.room + front_room (drop l.fn.turn l.commands);
      left : front_room (drop l.at l.commands) ≤ l.out.room;
    }

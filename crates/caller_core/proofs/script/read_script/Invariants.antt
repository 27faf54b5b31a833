use Rattle.caller_core.proofs.Cited.{◌≡◌, ◌+◌, ◌-◌, ◌≤◌, length, drop, lines_of, text_read, lines_read, behind_commands}
use Rattle.dev_handle.specs.Handles.{AreOnBoard}
use Rattle.caller_core.proofs.ReachLemmas.{IsReachBefore}
use Rattle.caller_core.proofs.script.read_script.Given as goal

abbrev pub decreases-loop-at : goal.decreases-loop-at
decreases-loop-at l = length l.text - l.at

abbrev pub invariant-loop-at : goal.invariant-loop-at
invariant-loop-at l =
    record {
      within : l.at ≤ length l.text;
      count : l.number ≤ l.at;
      same : behind_commands l.read.commands
          (lines_read l.board (l.number + 1) (length l.read.commands) (lines_of (drop l.at l.text)) l.handles) ≡ text_read l.board l.text;
      few : length l.handles ≤ length l.read.commands;
      reach : IsReachBefore l.board l.text l.at l.read.reach;
      on_board : AreOnBoard l.board l.handles;
    }

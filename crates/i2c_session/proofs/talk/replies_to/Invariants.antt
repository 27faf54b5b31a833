use Rattle.std.proofs.Common.{◌≡◌, ◌-◌}
use Rattle.tools.specs.Replies.{replies_of}
use Rattle.caller_core.specs.Runs.{command_dialogue}
use Rattle.i2c_session.proofs.TalkLemmas.{HasComeTo}
use Rattle.i2c_session.proofs.talk.replies_to.Given as goal

abbrev pub decreases-loop-place : goal.decreases-loop-place
decreases-loop-place l = (command_dialogue l.fn.run).places - l.place

abbrev pub invariant-loop-place : goal.invariant-loop-place
invariant-loop-place l =
    record {
      board : l.flat.board ≡ l.fn.flat.board;
      come : HasComeTo l.fn.flat.board (command_dialogue l.fn.run) l.fn.flat.states (replies_of l.replies.items) l.place l.flat.states;
    }

-- What a script keeps: where the words of each command stand, its replies, and how far it has come with them.
use Rattle.std.specs.Prelude.{◌≡◌, ℕ, ◌+◌, ◌^◌, ◌≤◌, Bool, true, false, List, [], map, take, drop}
use Rattle.std.specs.List.{sum_by}
use Rattle.packed.specs.View.{PackedView}
use Rattle.i2c_base.specs.declared.reply.ReplyHead.{ReplyHead}
use Rattle.tools.specs.Replies.{replies_of, most_brought}
use Rattle.tools.specs.View.{TextView}
use Rattle.caller_core.specs.Turns.{progress, sum_of, sum_left, IsAt}
use Rattle.caller_core.specs.View.{CommandView, ScriptView}
use Rattle.caller_core.specs.Scripts.{commands_of, cost_of_script, room_of, section_text}
use Rattle.caller_core.specs.Roots.{HasRoots}
use Rattle.caller_core.specs.declared.commands.Placed.{Placed}
use Rattle.caller_core.specs.declared.totals.Totals.{Totals}

-- the words of a command as they are printed, and the command with them
abbrev pub echo_in : List ℕ → Placed → List ℕ
echo_in echoes p = take p.len (drop p.start echoes)

abbrev pub command_in : List ℕ → Placed → CommandView
command_in echoes p = record { echo = echo_in echoes p; run = p.run }

abbrev pub commands_in : List ℕ → List Placed → List CommandView
commands_in echoes ps = map (command_in echoes) ps

abbrev pub IsInside : ℕ → Placed → Type 0
IsInside end p = p.start + p.len ≤ end

-- a kept reply
abbrev pub KeptReply : Type 0
KeptReply = ReplyHead × List ℕ

-- it has the commands of its script and their totals, stands where the replies that it took have brought it, and has printed the
-- commands that are over
pub record IsCaller (script : ScriptView) (commands : List CommandView) (taken : List KeptReply) (printed : List ℕ) (turn from
    place : ℕ) (totals : Totals) : Type 0 where
  pub whole : commands_of script ≡ commands
  pub at : IsAt commands (replies_of taken) turn from place
  pub text : printed ≡ section_text commands (replies_of taken)
  pub cost_is : totals.cost ≡ cost_of_script script
  pub cost_fits : totals.cost ≤ 2 ^ 53
  pub roots_are : HasRoots script.board commands totals.roots
  pub replies_are : totals.replies ≡ sum_by (sum_of (λ t. 1)) commands
  pub bytes_are : totals.bytes ≡ sum_by (sum_of most_brought) commands

-- there is room for the replies to come, for their bytes, and for what the commands left may print
pub record HasRoom (commands : List CommandView) (taken : PackedView ReplyHead) (printed : TextView) (turn : ℕ) : Type 0 where
  pub replies : sum_left (λ t. 1) (progress commands (replies_of taken.items)) ≤ taken.room
  pub bytes : sum_left most_brought (progress commands (replies_of taken.items)) ≤ taken.room_bytes
  pub text : sum_by room_of (drop turn commands) ≤ printed.room

-- it has that once it is ready, and before that it has taken nothing
pub record IsReady (commands : List CommandView) (taken : PackedView ReplyHead) (printed : TextView) (turn : ℕ) (ready : Bool)
    : Type 0 where
  pub room : ready ≡ true → HasRoom commands taken printed turn
  pub untaken : ready ≡ false → taken.items ≡ []

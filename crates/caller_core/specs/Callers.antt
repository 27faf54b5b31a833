-- A script as a caller.
use Rattle.std.specs.Prelude.{◌≡◌, ℕ, List, []}
use Rattle.std.specs.List.{sum_by}
use Rattle.i2c_base.specs.Board.{BoardView}
use Rattle.i2c_base.specs.Need.{Need}
use Rattle.i2c_base.specs.declared.reply.Reply.{Reply}
use Rattle.i2c_spec.specs.Fair.{IsFairCaller}
use Rattle.caller_core.specs.View.{ScriptView, CallerView}
use Rattle.caller_core.specs.Turns.{Progress, progress, sum_left}
use Rattle.caller_core.specs.Scripts.{commands_of, room_of, asked_by, left_of}

-- a script that is opened over a board and has taken nothing
pub record IsOpened (board : BoardView) (text : List ℕ) (s : CallerView) : Type 0 where
  pub board_is : s.script.board ≡ board
  pub text_is : s.script.text ≡ text
  pub untaken : s.taken ≡ []

abbrev pub board_of : ScriptView → BoardView
board_of s = s.board

-- the room that is still needed: for the reply of each transfer to come, and for what each command left may print
abbrev pub need_at : Progress → Need
need_at p = record { replies = sum_left (λ t. 1) p; bytes = sum_by room_of p.left }

abbrev pub owed_by : ScriptView → List Reply → Need
owed_by s taken = need_at (progress (commands_of s) taken)

-- whatever board and text a script is opened with: each of its transfers has messages and keeps the limits, and what is
-- left covers its cost and falls by it
abbrev pub ScriptsAreFair : Type 0
ScriptsAreFair = IsFairCaller asked_by left_of board_of

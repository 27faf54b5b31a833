-- What contracts see of a script: its commands, what it was opened with, and the script as a caller.
use Rattle.std.specs.Prelude.{ℕ, List}
use Rattle.i2c_base.specs.Board.{BoardView}
use Rattle.i2c_base.specs.Need.{Need}
use Rattle.i2c_base.specs.declared.reply.Reply.{Reply}
use Rattle.caller_core.specs.declared.run.CommandRun.{CommandRun}

-- a command as it runs, with its words as they are printed
pub record CommandView : Type 0 where
  pub echo : List ℕ
  pub run : CommandRun

-- what a script is opened with: the board, and the bytes of its text
pub record ScriptView : Type 0 where
  pub board : BoardView
  pub text : List ℕ

abbrev pub script_on : BoardView → List ℕ → ScriptView
script_on b text = record { board = b; text = text }

-- what it was opened with, the replies that it took, and the room that it has for more
pub record CallerView : Type 0 where
  pub script : ScriptView
  pub taken : List Reply
  pub spare : Need

-- A script: the commands of its lines, in order, or the first line that isn't in the grammar.
use Rattle.std.specs.Prelude.{⊤, ◌≡◌, ℕ, ◌+◌, nat_le, List, [], ◌∷◌, ◌++◌, length, map, take, codes, Option, Some, None, Result, Ok, Err, if◌then◌else◌}
use Rattle.std.specs.List.{sum_by, flat_map}
use Rattle.bus_journal.specs.Reports.{line_ended}
use Rattle.i2c_base.specs.Board.{BoardView}
use Rattle.i2c_base.specs.Transfer.{TransferView}
use Rattle.i2c_base.specs.declared.reply.Reply.{Reply}
use Rattle.i2c_spec.specs.Cost.{cost_of}
use Rattle.i2c_spec.specs.Flat.{block_limit}
use Rattle.tools.specs.Lines.{line_read}
use Rattle.tools.specs.Splits.{words_of, joined_words, lines_of}
use Rattle.tools.specs.declared.command.Cmd.{Cmd}
use Rattle.tools.specs.declared.fault.LineFault.{LineFault}
use Rattle.tools.specs.declared.fault.LineFault.TheVariants as line_fault
use Rattle.dev_handle.specs.Handles.{HandlesView}
use Rattle.caller_core.specs.Runs.{command_run, handles_behind}
use Rattle.caller_core.specs.Turns.{Answered, command_talk, quiet, quiet_front, progress, asked_at, sum_of, sum_left}
use Rattle.caller_core.specs.View.{CommandView, ScriptView}
use Rattle.caller_core.specs.declared.script.ScriptFault.{ScriptFault}
use Rattle.caller_core.specs.declared.script.ScriptFault.TheVariants as script_fault

-- the command of a line, over a board, with the handles before it
abbrev pub command_of : BoardView → HandlesView → List ℕ → Cmd → CommandView
command_of b v line c = record { echo = joined_words (words_of line); run = command_run b v c }

-- a line read behind so many commands: 1,000 is the most, and one more is refused at its first word
abbrev pub at_most : ℕ → Result (Option Cmd) ℕ → Result (Option Cmd) ℕ
at_most count (Ok None) = Ok None
at_most count (Ok (Some c)) = if nat_le 1000 count then Err 0 else Ok (Some c)
at_most count (Err word) = if nat_le 1000 count then Err 0 else Err word

-- the line, from 1, and its refused word, from 0
pub record Place : Type 0 where
  pub line : ℕ
  pub word : ℕ

abbrev pub behind_commands : List CommandView → Result (List CommandView) Place → Result (List CommandView) Place
behind_commands cs (Ok ds) = Ok (cs ++ ds)
behind_commands cs (Err p) = Err p

-- what is read behind a line, with the handles that it leaves
abbrev pub behind_line_read : BoardView → HandlesView → ℕ → List ℕ → Result (Option Cmd) ℕ → Result (List CommandView) Place
    → (HandlesView → Result (List CommandView) Place) → Result (List CommandView) Place
behind_line_read b v number line (Err word) same more = Err (record { line = number; word = word })
behind_line_read b v number line (Ok None) same more = same
behind_line_read b v number line (Ok (Some c)) same more = behind_commands (command_of b v line c ∷ []) (more (handles_behind b v c))

-- the lines from this number on, after so many commands and these handles; they are read with the block limit of the board
abbrev pub lines_read : BoardView → (number count : ℕ) → List (List ℕ) → HandlesView → Result (List CommandView) Place
lines_read b number count [] v = Ok []
lines_read b number count (l ∷ ls) v =
    behind_line_read b v number l (at_most count (line_read (block_limit b) l)) (lines_read b (number + 1) count ls v)
    (lines_read b (number + 1) (count + 1) ls)

-- no handle is open before the first line
abbrev pub text_read : BoardView → List ℕ → Result (List CommandView) Place
text_read b text = lines_read b 1 0 (lines_of text) []

abbrev pub script_read : ScriptView → Result (List CommandView) Place
script_read s = text_read s.board s.text

abbrev pub ScriptFaultIs : Result (List CommandView) Place → ScriptFault → Type 0
ScriptFaultIs r (script_fault.Bad line word) = r ≡ Err (record { line = line; word = word })
ScriptFaultIs r script_fault.Memory = ⊤

abbrev pub fault_at : LineFault → ℕ → ScriptFault
fault_at (line_fault.Word word) line = script_fault.Bad line word
fault_at line_fault.Memory line = script_fault.Memory

-- the commands of a script in the grammar, and what they ask for one after the other
abbrev pub commands_or_none : Result (List CommandView) Place → List CommandView
commands_or_none (Ok cs) = cs
commands_or_none (Err p) = []

abbrev pub commands_of : ScriptView → List CommandView
commands_of s = commands_or_none (script_read s)

abbrev pub asked_by : ScriptView → List Reply → Option TransferView
asked_by s taken = asked_at (progress (commands_of s) taken)

-- what the whole script can take of steps, and what is left of it behind these replies
abbrev pub cost_of_script : ScriptView → ℕ
cost_of_script s = sum_by (sum_of (cost_of s.board)) (commands_of s)

-- the scripts of a run that cost no more together are run
abbrev pub MOST_COST : ℕ
MOST_COST = 1000000

abbrev pub left_of : ScriptView → List Reply → ℕ
left_of s taken = sum_left (cost_of s.board) (progress (commands_of s) taken)

-- a command that is over: its words, and what it answers
abbrev pub command_text : Answered → List ℕ
command_text a = codes "> " ++ (a.command.echo ++ (10 ∷ flat_map line_ended ((command_talk a.command).lines a.replies)))

-- a command with its answer has at most so many bytes: those of its words, of the longest answer, and three beside them
abbrev pub room_of : CommandView → ℕ
room_of c = length c.echo + ((command_talk c).most + 3)

-- those at the front that ask for nothing have at most so many
abbrev pub front_room : List CommandView → ℕ
front_room cs = sum_by room_of (take (quiet_front cs) cs)

-- what the commands at the front print that ask for nothing
abbrev pub quiet_text : List CommandView → List ℕ
quiet_text cs = flat_map command_text (map quiet (take (quiet_front cs) cs))

-- the section of a script after these replies, without its heading
abbrev pub section_text : List CommandView → List Reply → List ℕ
section_text cs replies = flat_map command_text (progress cs replies).over

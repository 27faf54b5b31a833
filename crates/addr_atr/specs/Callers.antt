-- A script behind translators as a caller.
use Rattle.std.specs.Prelude.{ℕ, List, Option}
use Rattle.std.specs.Option.{option_map}
use Rattle.i2c_base.specs.Board.{BoardView}
use Rattle.i2c_base.specs.Need.{Need}
use Rattle.i2c_base.specs.Transfer.{TransferView}
use Rattle.i2c_base.specs.declared.reply.Reply.{Reply}
use Rattle.i2c_spec.specs.Cost.{cost_of}
use Rattle.i2c_spec.specs.Fair.{IsFairCaller}
use Rattle.caller_core.specs.Callers.{owed_by as script_owed}
use Rattle.caller_core.specs.Scripts.{commands_of, asked_by as script_asked}
use Rattle.caller_core.specs.Turns.{progress, sum_left}
use Rattle.caller_core.specs.View.{ScriptView, CallerView}
use Rattle.addr_atr.specs.Maps.{TranslatorView}
use Rattle.addr_atr.specs.Lowering.{lowered, translated}

-- what it is opened with: a script over the board as written, and the translators
pub record AtrView : Type 0 where
  pub script : ScriptView
  pub translators : List TranslatorView

-- the script as it stands, and the translators
pub record AtrCallerView : Type 0 where
  pub script : CallerView
  pub translators : List TranslatorView

abbrev pub data_of : AtrCallerView → AtrView
data_of c = record { script = c.script.script; translators = c.translators }

-- its board is the lowered one
abbrev pub board_of : AtrView → BoardView
board_of s = lowered s.script.board s.translators

-- it asks for what the script asks for by the board as written, translated
abbrev pub asked_by : AtrView → List Reply → Option TransferView
asked_by s taken = option_map (translated s.script.board s.translators) (script_asked s.script taken)

-- what a transfer of the script costs on the lowered board, and what is left of that
abbrev pub lowered_cost : AtrView → TransferView → ℕ
lowered_cost s t = cost_of (board_of s) (translated s.script.board s.translators t)

abbrev pub left_of : AtrView → List Reply → ℕ
left_of s taken = sum_left (lowered_cost s) (progress (commands_of s.script) taken)

-- the room that is needed is the script's
abbrev pub owed_by : AtrView → List Reply → Need
owed_by s taken = script_owed s.script taken

abbrev pub AtrCallersAreFair : Type 0
AtrCallersAreFair = IsFairCaller asked_by left_of board_of

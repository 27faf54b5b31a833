-- What a run of scripts comes to: the report of a journal that is legal and complete and follows the schedule, where there
-- is one; the calls of that journal in the ports' logs; and the devices that its history leaves.
use Rattle.std.specs.Prelude.{Option, ◌≡◌, ℕ, List, length, map, All, None, Some}
use Rattle.std.specs.List.{sum_by, AllZip}
use Rattle.i2c_base.specs.declared.caller.Caller.{Ghosts as CallerGhosts}
use Rattle.i2c_base.specs.declared.entry.Entry.{Entry}
use Rattle.i2c_base.specs.declared.port.PortCall.{PortCall}
use Rattle.i2c_base.specs.declared.reply.Reply.{Reply}
use Rattle.i2c_base.specs.Board.{BoardView}
use Rattle.i2c_spec.specs.Targets.{TargetState}
use Rattle.i2c_spec.specs.History.{Asks}
use Rattle.bus_spec.specs.Schedule.{Follows}
use Rattle.bus_spec.specs.Report.{report_of}
use Rattle.bus_groups.specs.Homes.{homes_of, caller_home_at, AreByHomes}
use Rattle.caller_core.specs.Callers.{IsOpened, board_of, owed_by}
use Rattle.caller_core.specs.Roots.{HasRoots}
pub use Rattle.caller_core.specs.Scripts.{MOST_COST}
use Rattle.caller_core.specs.Scripts.{asked_by, left_of, commands_of, cost_of_script, section_text}
use Rattle.caller_core.specs.View.{CallerView, ScriptView, script_on}
use Rattle.i2c_top.specs.Callers.{asks_in, printed_in, IsRunBy}

-- a script as a caller
abbrev pub script_row : CallerGhosts CallerView ScriptView
script_row = record {
  script = λ s. s.script;
  board = board_of;
  taken = λ s. s.taken;
  asked = asked_by;
  left = left_of;
  owed = owed_by;
  spare = λ s. s.spare;
}

-- what a caller asks for, by the text of its script, which stands at its number; nobody has another number
abbrev pub asks_by : BoardView → List (List ℕ) → Asks
asks_by b texts = asks_in (λ text. asked_by (script_on b text)) texts

-- what it prints after these replies
abbrev pub printed_by : BoardView → List (List ℕ) → ℕ → List Reply → List ℕ
printed_by b texts = printed_in (λ text. section_text (commands_of (script_on b text))) texts

-- scripts that are opened over a board and have taken nothing
abbrev pub AreOpened : BoardView → List CallerView → Type 0
AreOpened b scripts = All (λ s. IsOpened b s.script.text s) scripts

-- the texts that they were opened with
abbrev pub texts_of : List CallerView → List (List ℕ)
texts_of scripts = map (λ s. s.script.text) scripts

-- what a caller has printed
abbrev pub section_of : CallerView → List ℕ
section_of s = section_text (commands_of s.script) s.taken

-- what the scripts of these texts cost over a board, all together
abbrev pub cost_of_texts : BoardView → List (List ℕ) → ℕ
cost_of_texts b texts = sum_by (λ text. cost_of_script (script_on b text)) texts

-- over an accepted board this journal is a run of scripts of these texts (`IsRunBy` in `specs/Callers.antt`)
abbrev pub IsRunOf : BoardView → List (List ℕ) → List (List PortCall) → List TargetState → List ℕ → List Entry → Type 0
IsRunOf b texts logs states counts journal = IsRunBy b (length texts) (asks_by b texts) logs states counts journal

-- callers whose transfers name a root in common, also through others, are a group, and the groups come one after the other, the
-- one with the least root first; who names no root belongs to root 0
pub record IsOfGroups (b : BoardView) (texts : List (List ℕ)) (journal : List Entry) : Type 0 where
  -- the roots that each script's transfers name, as bits
  pub masks : List ℕ
  pub named : AllZip (λ text mask. HasRoots b (commands_of (script_on b text)) mask) texts masks
  pub ordered : AreByHomes (caller_home_at (homes_of (length b.roots) masks) masks) journal

-- it follows the schedule whose words name these callers, where there is one; else it is the groups' journals
abbrev pub KeepsOrder : BoardView → List (List ℕ) → Option (List ℕ) → List Entry → Type 0
KeepsOrder b texts None journal = IsOfGroups b texts journal
KeepsOrder b texts (Some words) journal = Follows words journal

-- there is such a journal, which keeps the order that is asked for, and these bytes are what is told of it
pub record HasRunTold (told : List Entry → List ℕ) (b : BoardView) (texts : List (List ℕ)) (words : Option (List ℕ)) (bytes : List ℕ)
    (logs : List (List PortCall)) (states : List TargetState) (counts : List ℕ) : Type 0 where
  pub journal : List Entry
  pub is_told : bytes ≡ told journal
  pub is_run : IsRunOf b texts logs states counts journal
  pub ordered : KeepsOrder b texts words journal

-- .. their report
abbrev pub report_by : BoardView → List (List ℕ) → List Entry → List ℕ
report_by b texts journal = report_of (printed_by b texts) (length texts) journal

abbrev pub HasRun : BoardView → List (List ℕ) → Option (List ℕ) → List ℕ → List (List PortCall) → List TargetState → List ℕ → Type 0
HasRun b texts words bytes logs states counts = HasRunTold (report_by b texts) b texts words bytes logs states counts

-- Sessions and replays: the lines of a session that are part of it are a script, which prints in a replay what the session answered.
use Rattle.std.specs.Prelude.{◌≡◌, ◌≤◌, ℕ, Bool, true, false, All, List, [], ◌∷◌, ◌++◌, Option, Ok, length, codes, if◌then◌else◌}
use Rattle.std.specs.List.{flat_map}
use Rattle.i2c_base.specs.Board.{BoardView}
use Rattle.i2c_base.specs.declared.entry.Entry.{Entry}
use Rattle.i2c_base.specs.declared.port.PortCall.{PortCall}
use Rattle.i2c_spec.specs.Targets.{TargetState}
use Rattle.bus_spec.specs.Report.{report_lines}
use Rattle.tools.specs.Splits.{joined_words, lines_of, words_of}
use Rattle.caller_core.specs.Scripts.{MOST_COST, commands_of, cost_of_script, text_read}
use Rattle.caller_core.specs.View.{script_on}
use Rattle.i2c_session.specs.Sessions.{Answer, Empty, Exchange, IsTranscript, Ran, Refused, SessionView, opening}
use Rattle.i2c_top.specs.Runs.{HasRun}

-- a line is part of the session unless it is refused
abbrev pub is_part : Answer → Bool
is_part (Refused word) = false
is_part (Empty number) = true
is_part (Ran printed number) = true

abbrev pub parts_of : List Exchange → List (List ℕ)
parts_of [] = []
parts_of (x ∷ xs) = if is_part x.answer then x.line ∷ parts_of xs else parts_of xs

-- what a script prints of a line: of a command its words, and its answer
abbrev pub section_by : List ℕ → Answer → List ℕ
section_by line (Ran printed number) = codes "> " ++ (joined_words (words_of line) ++ (10 ∷ printed))
section_by line (Refused word) = []
section_by line (Empty number) = []

abbrev pub section_of : Exchange → List ℕ
section_of x = section_by x.line x.answer

-- a text is read as the lines that are part of a session, and a replay takes it
pub record IsItsScript (b : BoardView) (xs : List Exchange) (end : SessionView) (text : List ℕ) : Type 0 where
  pub in_grammar : text_read b text ≡ Ok (commands_of (script_on b text))
  pub many : length (commands_of (script_on b text)) ≡ end.commands
  pub cost_is : cost_of_script (script_on b text) ≡ end.cost
  pub cheap : cost_of_script (script_on b text) ≤ MOST_COST

-- a report of it has what the session answered, and leaves its devices
pub record IsItsReport (xs : List Exchange) (end : SessionView) (bytes : List ℕ) (states : List TargetState) : Type 0 where
  pub journal : List Entry
  pub report : bytes ≡ report_lines (flat_map section_of xs ∷ []) journal
  pub devices : states ≡ end.states

-- a session, and a text whose lines are those that are part of it
pub record IsSessionOf (b : BoardView) (xs : List Exchange) (end : SessionView) (text : List ℕ) : Type 0 where
  pub transcript : IsTranscript xs (opening b) end
  pub lines_are : lines_of text ≡ parts_of xs

-- the text is a script that a replay takes, and each run of it in which no port counts a failed call says what the session did
abbrev pub SessionsAreScripts : Type 0
SessionsAreScripts = (b : BoardView) (xs : List Exchange) (end : SessionView) (text : List ℕ) → IsSessionOf b xs end text
    → IsItsScript b xs end text

abbrev pub SessionsAnswerAsReplays : Type 0
SessionsAnswerAsReplays = (b : BoardView) (xs : List Exchange) (end : SessionView) (text : List ℕ) → IsSessionOf b xs end text
    → (words : Option (List ℕ)) (bytes : List ℕ) (logs : List (List PortCall)) (states : List TargetState) (counts : List ℕ)
    → HasRun b (text ∷ []) words bytes logs states counts → All (λ n. n ≡ 0) counts → IsItsReport xs end bytes states

-- A session over a board (this project's own): lines of a script that come one after the other, each answered before the next one is read.
-- Their transfers happen in the flat world.
use Rattle.std.specs.Prelude.{◌≡◌, ℕ, ◌+◌, nat_lt, Bool, true, false, List, [], ◌∷◌, ◌++◌, map, codes, Option, Some, None, Result, Ok, Err, MatchBool}
use Rattle.std.specs.Fmt.{decimal}
use Rattle.std.specs.List.{flat_map, sum_by}
use Rattle.i2c_base.specs.Board.{BoardView}
use Rattle.i2c_base.specs.Replies.{reply_by}
use Rattle.i2c_base.specs.declared.reply.Reply.{Reply}
use Rattle.i2c_base.specs.declared.reply.ReplyHead.{ReplyHead}
use Rattle.i2c_base.specs.declared.reply.Cut.TheVariants as cut
use Rattle.i2c_spec.specs.Cost.{cost_of}
use Rattle.i2c_spec.specs.Flat.{FlatTold, block_limit, flat}
use Rattle.i2c_spec.specs.Targets.{TargetState, opening_state}
use Rattle.bus_journal.specs.Reports.{line_ended}
use Rattle.dev_handle.specs.Handles.{HandlesView}
use Rattle.tools.specs.Dialogues.{Dialogue, is_over, next_place, transfers_of}
use Rattle.tools.specs.Lines.{line_read}
use Rattle.tools.specs.declared.command.Cmd.{Cmd}
use Rattle.caller_core.specs.Runs.{command_dialogue, command_run, handles_behind}
use Rattle.caller_core.specs.Scripts.{MOST_COST, at_most}
use Rattle.caller_core.specs.declared.run.CommandRun.{CommandRun}

-- what a session has come to: the open handles, the devices as the transfers have left them, and how many commands it had and what
-- these cost
pub record SessionView : Type 0 where
  pub board : BoardView
  pub handles : HandlesView
  pub states : List TargetState
  pub commands : ℕ
  pub cost : ℕ

-- .. before its first line
abbrev pub opening : BoardView → SessionView
opening b = record { board = b; handles = []; states = map opening_state b.devices; commands = 0; cost = 0 }

-- the transfer at a place of a dialogue, in the flat world
abbrev pub told_at : BoardView → Dialogue → ℕ → List TargetState → FlatTold
told_at b d place states = flat b states (d.at place) cut.No

-- these are the replies to the transfers of a dialogue from a place on: each is that of the flat world, on the devices that the one
-- before it left, and the last leaves these
abbrev pub Talks : BoardView → Dialogue → ℕ → List TargetState → List Reply → List TargetState → Type 0
Talks b d place states [] ends = (is_over d place ≡ true) × (ends ≡ states)
Talks b d place states (r ∷ rs) ends =
    (is_over d place ≡ false) × (r ≡ (told_at b d place states).reply)
    × Talks b d (next_place d place r) (told_at b d place states).states rs ends

-- a reply has this head
pub record IsHeadOf (head : ReplyHead) (r : Reply) : Type 0 where
  pub bytes : List ℕ
  pub is : r ≡ reply_by head bytes

-- what a command costs
abbrev pub cost_in : BoardView → CommandRun → ℕ
cost_in b run = sum_by (cost_of b) (transfers_of (command_dialogue run))

-- what a line is answered: its first refused word, from 0, which makes it no part of the session; or how many commands there were so
-- far, behind what its command printed, where it has one
pub data Answer : Type 0 where
  Refused : (word : ℕ) → Answer
  Empty : (number : ℕ) → Answer
  Ran : (printed : List ℕ) → (number : ℕ) → Answer

abbrev pub number_line : ℕ → List ℕ
number_line number = codes "command " ++ (decimal number ++ codes "\n")

abbrev pub word_line : ℕ → List ℕ
word_line word = codes "word " ++ (decimal word ++ codes "\n")

abbrev pub answer_text : Answer → List ℕ
answer_text (Refused word) = word_line word
answer_text (Empty number) = number_line number
answer_text (Ran printed number) = printed ++ number_line number

-- a command was run: it printed what it prints of the replies
pub record HasRunCommand (s : SessionView) (run : CommandRun) (handles : HandlesView) (answer : Answer) (next : SessionView) : Type 0 where
  pub replies : List Reply
  pub ends : List TargetState
  pub talked : Talks s.board (command_dialogue run) 0 s.states replies ends
  pub answer_is : answer ≡ Ran (flat_map line_ended ((command_dialogue run).lines replies)) (s.commands + 1)
  pub next_is : next ≡ record {
    board = s.board;
    handles = handles;
    states = ends;
    commands = s.commands + 1;
    cost = s.cost + cost_in s.board run;
  }

-- a line leaves the session as it is
abbrev pub IsLeftAs : SessionView → Answer → Answer → SessionView → Type 0
IsLeftAs s due answer next = (answer ≡ due) × (next ≡ s)

-- a command whose cost, with those before it, is above the limit is refused at its first word
abbrev pub is_dear : SessionView → CommandRun → Bool
is_dear s run = nat_lt MOST_COST (s.cost + cost_in s.board run)

abbrev pub AnswersCommand : SessionView → CommandRun → HandlesView → Answer → SessionView → Type 0
AnswersCommand s run handles answer next =
    MatchBool (is_dear s run) (IsLeftAs s (Refused 0) answer next) (HasRunCommand s run handles answer next)

-- .. by what was read of the line
abbrev pub AnswersRead : SessionView → Result (Option Cmd) ℕ → Answer → SessionView → Type 0
AnswersRead s (Err word) answer next = IsLeftAs s (Refused word) answer next
AnswersRead s (Ok None) answer next = IsLeftAs s (Empty s.commands) answer next
AnswersRead s (Ok (Some c)) answer next =
    AnswersCommand s (command_run s.board s.handles c) (handles_behind s.board s.handles c) answer next

-- a line is read as one of a script is, behind the commands so far
abbrev pub read_of : SessionView → List ℕ → Result (Option Cmd) ℕ
read_of s line = at_most s.commands (line_read (block_limit s.board) line)

abbrev pub Answers : SessionView → List ℕ → Answer → SessionView → Type 0
Answers s line answer next = AnswersRead s (read_of s line) answer next

-- .. with this text
pub record IsAnswered (s : SessionView) (line text : List ℕ) (next : SessionView) : Type 0 where
  pub answer : Answer
  pub answers : Answers s line answer next
  pub text_is : text ≡ answer_text answer

pub record IsCommandAnswered (s : SessionView) (run : CommandRun) (handles : HandlesView) (text : List ℕ) (next : SessionView) : Type 0 where
  pub answer : Answer
  pub answers : AnswersCommand s run handles answer next
  pub text_is : text ≡ answer_text answer

-- a line, and what it was answered
pub record Exchange : Type 0 where
  pub line : List ℕ
  pub answer : Answer

-- lines were answered one after the other, from one standing of a session to another
abbrev pub IsTranscript : List Exchange → SessionView → SessionView → Type 0
IsTranscript [] s end = end ≡ s
IsTranscript (x ∷ xs) s end = (next : SessionView) × Answers s x.line x.answer next × IsTranscript xs next end

-- the lines, and what was said to them
abbrev pub lines_of : List Exchange → List (List ℕ)
lines_of xs = map (λ (x : Exchange). x.line) xs

abbrev pub spoken : List Exchange → List ℕ
spoken xs = flat_map (λ (x : Exchange). answer_text x.answer) xs

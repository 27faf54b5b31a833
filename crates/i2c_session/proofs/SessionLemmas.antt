-- What a line is answered, by what was read of it and what came of its command; and a transcript with one line more. The induction goes
-- over the lines.
use Rattle.std.proofs.Common.{◌≡◌, ℕ, ◌+◌, ◌-◌, ◌<◌, ◌≤◌, Bool, true, false, List, [], ◌∷◌, ◌++◌, Result, Ok, Err, Option, None}
use Rattle.std.proofs.Common.{refl, sym, ◌∙◌, ap, subst, arith}
use Rattle.std.proofs.lemmas.Bool.Decides.{nat_tests}
use Rattle.std.specs.List.{flat_map}
use Rattle.std.specs.Prelude.{IfOk, MatchBool}
use Rattle.i2c_base.specs.Board.{BoardView}
use Rattle.i2c_base.specs.declared.reply.Reply.{Reply}
use Rattle.i2c_spec.specs.Targets.{TargetState}
use Rattle.bus_journal.specs.Reports.{line_ended}
use Rattle.dev_handle.specs.Handles.{HandlesView}
use Rattle.tools.specs.View.{TextView}
use Rattle.tools.specs.declared.command.Cmd.{Cmd}
use Rattle.tools.specs.declared.command.Cmd.TheVariants as cmd
use Rattle.tools.specs.declared.command.handle.HandleCmd.TheVariants as handle
use Rattle.caller_core.specs.Runs.{command_dialogue, command_run, handles_behind}
use Rattle.caller_core.specs.Scripts.{MOST_COST}
use Rattle.caller_core.specs.declared.run.CommandRun.{CommandRun}
use Rattle.i2c_session.specs.Sessions.{Answer, Answers, AnswersRead, Empty, Exchange, HasRunCommand, IsAnswered, IsCommandAnswered, IsLeftAs, IsTranscript, Ran, Refused, SessionView, Talks}
use Rattle.i2c_session.specs.Sessions.{cost_in, is_dear, number_line, read_of, word_line}

-- a command that changes the handles asks for nothing
pub costly-keeps : (b : BoardView) (v : HandlesView) (c : Cmd) → 0 < cost_in b (command_run b v c) → handles_behind b v c ≡ v
costly-keeps b v (cmd.Tool t) costs = refl
costly-keeps b v (cmd.Driver d) costs = refl
costly-keeps b v (cmd.Handle (handle.Open bus)) costs = absurd (omega (arith, costs))
costly-keeps b v (cmd.Handle (handle.Slave h addr force)) costs = absurd (omega (arith, costs))
costly-keeps b v (cmd.Handle (handle.Pec h on)) costs = absurd (omega (arith, costs))
costly-keeps b v (cmd.Handle (handle.Read h n)) costs = refl
costly-keeps b v (cmd.Handle (handle.Write h bytes)) costs = refl
costly-keeps b v (cmd.Handle (handle.Rdwr h ms)) costs = refl
costly-keeps b v (cmd.Handle (handle.Proc h reg word)) costs = refl
costly-keeps b v (cmd.Handle (handle.Bproc h reg bytes)) costs = refl
costly-keeps b v (cmd.Handle (handle.Close h)) costs = absurd (omega (arith, costs))

-- a line without a command, and one that is refused, by what came of their texts
pub answered-none : {E : Type 0} (s : SessionView) (line : List ℕ) (r : Result TextView E) (number : ℕ) → read_of s line ≡ Ok None
    → number ≡ s.commands → IfOk r (λ t. t.bytes ≡ number_line number) → IfOk r (λ t. IsAnswered s line t.bytes s)
answered-none s line (Err e) number reads many is = tt
answered-none s line (Ok t) number reads many is = record {
  answer = Empty s.commands;
  answers = subst (λ (x : Result (Option Cmd) ℕ). AnswersRead s x (Empty s.commands) s) (sym reads) (refl, refl);
  text_is = is ∙ ap number_line many;
}

pub answered-word : {E : Type 0} (s : SessionView) (line : List ℕ) (r : Result TextView E) (word : ℕ) → read_of s line ≡ Err word
    → IfOk r (λ t. t.bytes ≡ word_line word) → IfOk r (λ t. IsAnswered s line t.bytes s)
answered-word s line (Err e) word reads is = tt
answered-word s line (Ok t) word reads is = record {
  answer = Refused word;
  answers = subst (λ (x : Result (Option Cmd) ℕ). AnswersRead s x (Refused word) s) (sym reads) (refl, refl);
  text_is = is;
}

-- a command that costs too much, and one that was run
pub ran-dear : {E : Type 0} (s next : SessionView) (r : Result TextView E) (run : CommandRun) (handles : HandlesView)
    → MOST_COST < s.cost + cost_in s.board run → next ≡ s → IfOk r (λ t. t.bytes ≡ word_line 0)
    → IfOk r (λ t. IsCommandAnswered s run handles t.bytes next)
ran-dear s next (Err e) run handles dear stays is = tt
ran-dear s next (Ok t) run handles dear stays is = record {
  answer = Refused 0;
  answers = subst (λ (x : Bool). MatchBool x (IsLeftAs s (Refused 0) (Refused 0) next) (HasRunCommand s run handles (Refused 0) next))
      (sym (let h : is_dear s run ≡ true = grind (arith, nat_tests, dear) in h)) (refl, stays);
  text_is = is;
}

pub ran-through : {E : Type 0} (s next : SessionView) (r : Result TextView E) (run : CommandRun) (handles : HandlesView)
    (replies : List Reply) (ends : List TargetState) → s.cost + cost_in s.board run ≤ MOST_COST
    → Talks s.board (command_dialogue run) 0 s.states replies ends
    → next ≡ record { board = s.board; handles = handles; states = ends; commands = s.commands + 1; cost = s.cost + cost_in s.board run }
    → IfOk r (λ t. t.bytes ≡ flat_map line_ended ((command_dialogue run).lines replies) ++ number_line (s.commands + 1))
    → IfOk r (λ t. IsCommandAnswered s run handles t.bytes next)
ran-through s next (Err e) run handles replies ends cheap talked is text = tt
ran-through s next (Ok t) run handles replies ends cheap talked is text =
    let answer : Answer = Ran (flat_map line_ended ((command_dialogue run).lines replies)) (s.commands + 1) in
    record {
      answer = answer;
      answers = subst (λ (x : Bool). MatchBool x (IsLeftAs s (Refused 0) answer next) (HasRunCommand s run handles answer next))
          (sym (let h : is_dear s run ≡ false = grind (arith, nat_tests, cheap) in h))
          (record { replies = replies; ends = ends; talked = talked; answer_is = refl; next_is = is });
      text_is = text;
    }

-- .. by how the run and the handles behind it were made
pub of-command : {E : Type 0} (v s next : SessionView) (r : Result TextView E) (run : CommandRun) (handles : HandlesView) (c : Cmd) → v ≡ s
    → run ≡ command_run v.board v.handles c → handles ≡ handles_behind v.board v.handles c
    → IfOk r (λ t. IsCommandAnswered v run handles t.bytes next)
    → IfOk r (λ t. IsCommandAnswered s (command_run s.board s.handles c) (handles_behind s.board s.handles c) t.bytes next)
of-command v s next r run handles c same runs left is =
    subst (λ (x : SessionView). IfOk r (λ t. IsCommandAnswered x (command_run x.board x.handles c) (handles_behind x.board x.handles c) t.bytes next)) same
    (subst (λ (h : HandlesView). IfOk r (λ t. IsCommandAnswered v (command_run v.board v.handles c) h t.bytes next)) left
    (subst (λ (x : CommandRun). IfOk r (λ t. IsCommandAnswered v x handles t.bytes next)) runs is))

-- a command that costs too much leaves the handles and the number as they are
pub stays-as : (b : BoardView) (handles left : HandlesView) (states : List TargetState) (number cost : ℕ) (run : CommandRun) (c : Cmd)
    → run ≡ command_run b handles c → left ≡ handles_behind b handles c → cost ≤ MOST_COST → MOST_COST < cost + cost_in b run
    → (let s : SessionView = record { board = b; handles = left; states = states; commands = number + 1 - 1; cost = cost } in s)
    ≡ record { board = b; handles = handles; states = states; commands = number; cost = cost }
stays-as b handles left states number cost run c runs is low dear =
    let same : cost_in b run ≡ cost_in b (command_run b handles c) = ap (cost_in b) runs in
    let kept : left ≡ handles = is ∙ costly-keeps b handles c (omega (arith, low, dear, same)) in
    ap (λ (h : HandlesView). (let s : SessionView = record { board = b; handles = h; states = states; commands = number + 1 - 1; cost = cost } in s)) kept
    ∙ ap (λ (n : ℕ). (let s : SessionView = record { board = b; handles = handles; states = states; commands = n; cost = cost } in s))
    (let n : number + 1 - 1 ≡ number = omega arith in n)

-- one line more
pub transcript-more : (xs : List Exchange) (x : Exchange) (s end next : SessionView) → IsTranscript xs s end
    → Answers end x.line x.answer next → IsTranscript (xs ++ x ∷ []) s next
transcript-more [] x s end next is answers = (next, subst (λ (v : SessionView). Answers v x.line x.answer next) is answers, refl)
transcript-more (y ∷ ys) x s end next is answers = (is.0, is.1, transcript-more ys x is.0 end next is.2 answers)

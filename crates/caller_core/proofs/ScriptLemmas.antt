-- A line of a script, after the commands before it.
use Rattle.caller_core.proofs.Cited.{◌≡◌, ℕ, ◌+◌, ◌≤◌, List, [], ◌∷◌, ◌++◌, length, take, drop, Some, None, Result, Ok, Err, refl, sym, ap}
use Rattle.caller_core.proofs.Cited.{◌∙◌, append_assoc, subst, arith, drop-drop, BoardView, block_limit, HandlesView, words_of}
use Rattle.caller_core.proofs.Cited.{joined_words, lines_of, line_read, Cmd, command_run, handles_behind, CommandRun, CommandView, Place}
use Rattle.caller_core.proofs.Cited.{command_of, at_most, lines_read, behind_commands, behind_line_read, commands_or_none, text_read}
use Rattle.caller_core.proofs.Cited.{IsStep, IsRefused}
use Rattle.std.proofs.Common.{length-append}
use Rattle.tools.specs.Readers.{FaultIs}
use Rattle.tools.specs.declared.fault.LineFault.{LineFault}
use Rattle.tools.specs.declared.fault.LineFault.TheVariants as line_fault
use Rattle.caller_core.specs.Scripts.{fault_at, ScriptFaultIs}
use Rattle.caller_core.proofs.CommandLemmas.{text_most}
use Rattle.caller_core.specs.declared.script.ScriptFault.{ScriptFault}

behind_push : (old : List CommandView) (c : CommandView) (r : Result (List CommandView) Place)
    → behind_commands (old ++ c ∷ []) r ≡ behind_commands old (behind_commands (c ∷ []) r)
behind_push old c (Ok cs) = ap Ok (append_assoc old (c ∷ []) cs)
behind_push old c (Err p) = refl

-- a line read behind the commands before it: a command, none, or a refusal
pub is_step_some : (b : BoardView) (number count : ℕ) (line : List ℕ) (old new : List CommandView) (c : Cmd) (run : CommandRun)
    (before after : HandlesView) → count ≡ length old → run ≡ command_run b before c → after ≡ handles_behind b before c
    → at_most count (line_read (block_limit b) line) ≡ Ok (Some c)
    → new ≡ old ++ record { echo = joined_words (words_of line); run = run } ∷ [] → IsStep b number old new line before after
is_step_some b number count line old new c run before after n runs handles e made =
    let next : new ≡ old ++ command_of b before line c ∷ [] = made
    ∙ ap (λ (x : CommandRun). old ++ record { echo = joined_words (words_of line); run = x } ∷ []) runs in
    let read : at_most (length old) (line_read (block_limit b) line) ≡ Ok (Some c) =
    ap (λ k. at_most k (line_read (block_limit b) line)) (sym n) ∙ e in
    record {
      same =
          λ ls. ap (λ x. behind_commands x (lines_read b (number + 1) (length x) ls after)) next
          ∙ ap (λ k. behind_commands (old ++ command_of b before line c ∷ []) (lines_read b (number + 1) k ls after))
          (length-append old (command_of b before line c ∷ []))
          ∙ ap (λ (v : HandlesView). behind_commands (old ++ command_of b before line c ∷ [])
          (lines_read b (number + 1) (length old + 1) ls v)) handles
          ∙ behind_push old (command_of b before line c) (lines_read b (number + 1) (length old + 1) ls (handles_behind b before c))
          ∙ ap (λ x. behind_commands old
          (behind_line_read b before number line x (lines_read b (number + 1) (length old) ls before)
          (lines_read b (number + 1) (length old + 1) ls))) (sym read);
    }

pub is_step_none : (b : BoardView) (number count : ℕ) (line : List ℕ) (old : List CommandView) (before : HandlesView) → count ≡ length old
    → at_most count (line_read (block_limit b) line) ≡ Ok None → IsStep b number old old line before before
is_step_none b number count line old before n e =
    let read : at_most (length old) (line_read (block_limit b) line) ≡ Ok None =
    ap (λ k. at_most k (line_read (block_limit b) line)) (sym n) ∙ e in
    record {
      same = λ ls. ap (λ x. behind_commands old
          (behind_line_read b before number line x (lines_read b (number + 1) (length old) ls before)
          (lines_read b (number + 1) (length old + 1) ls))) (sym read);
    }

pub is_refused : (b : BoardView) (number count : ℕ) (line : List ℕ) (old : List CommandView) (before : HandlesView) (fault : LineFault)
    (told : ScriptFault) → count ≡ length old
    → FaultIs (at_most count (line_read (block_limit b) line)) fault → told ≡ fault_at fault number
    → IsRefused b number old line before told
is_refused b number count line old before (line_fault.Word word) told n e is =
    let read : at_most (length old) (line_read (block_limit b) line) ≡ Err word =
    ap (λ k. at_most k (line_read (block_limit b) line)) (sym n) ∙ e in
    let refused : IsRefused b number old line before (fault_at (line_fault.Word word) number) = record {
      refused = λ ls. ap (λ x. behind_commands old
          (behind_line_read b before number line x (lines_read b (number + 1) (length old) ls before)
          (lines_read b (number + 1) (length old + 1) ls))) read;
    } in
    subst (IsRefused b number old line before) (sym is) refused
is_refused b number count line old before line_fault.Memory told n e is =
    let refused : IsRefused b number old line before (fault_at line_fault.Memory number) = record { refused = λ ls. tt } in
    subst (IsRefused b number old line before) (sym is) refused

-- a step after the lines that are read, and a line that is refused there
pub script_steps : (b : BoardView) (number at len skip : ℕ) (text : List ℕ) (old new : List CommandView)
    (before after : HandlesView) (all : Result (List CommandView) Place)
    → IsStep b number old new (take len (drop at text)) before after
    → lines_of (drop at text) ≡ take len (drop at text) ∷ lines_of (drop skip (drop at text))
    → behind_commands old (lines_read b number (length old) (lines_of (drop at text)) before) ≡ all
    → behind_commands new (lines_read b (number + 1) (length new) (lines_of (drop (at + skip) text)) after) ≡ all
script_steps b number at len skip text old new before after all step split e =
    let rest : drop skip (drop at text) ≡ drop (at + skip) text = drop-drop skip at text in
    ap (λ xs. behind_commands new (lines_read b (number + 1) (length new) (lines_of xs) after)) (sym rest)
    ∙ step.same (lines_of (drop skip (drop at text)))
    ∙ ap (λ ls. behind_commands old (lines_read b number (length old) ls before)) (sym split)
    ∙ e

pub refused_script : (b : BoardView) (number at len skip : ℕ) (text : List ℕ) (old : List CommandView) (before : HandlesView)
    (fault : ScriptFault) (all : Result (List CommandView) Place)
    → IsRefused b number old (take len (drop at text)) before fault
    → lines_of (drop at text) ≡ take len (drop at text) ∷ lines_of (drop skip (drop at text))
    → behind_commands old (lines_read b number (length old) (lines_of (drop at text)) before) ≡ all → ScriptFaultIs all fault
refused_script b number at len skip text old before fault all h split e =
    let same : behind_commands old
    (lines_read b number (length old) (take len (drop at text) ∷ lines_of (drop skip (drop at text))) before) ≡ all =
    ap (λ ls. behind_commands old (lines_read b number (length old) ls before)) (sym split) ∙ e in
    subst (λ (r : Result (List CommandView) Place). ScriptFaultIs r fault) same (h.refused (lines_of (drop skip (drop at text))))

-- a text that is read has few commands
pub few_commands : (b : BoardView) (text : List ℕ) (cs : List CommandView) → text_read b text ≡ Ok cs → length cs ≤ 1000
few_commands b text cs e =
    let same : commands_or_none (text_read b text) ≡ cs = ap commands_or_none e in
    omega (arith, text_most b text, ap length same)

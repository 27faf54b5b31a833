-- The laws of the lines of a script, and what a line is read as. They hold of any grammar whose ends are in range.
use Rattle.tools.proofs.Cited.{◌≡◌, ℕ, suc, ◌+◌, true, List, [], ◌∷◌, take, Some, None, Result, Ok, Err, refl, sym, ap, ◌∙◌, cond, arith}
use Rattle.tools.proofs.Cited.{is_command, words_of, read_at, Word, IsWithin, follow_words, MOST_WORDS, IsInRange, FaultIs, Cmd}
use Rattle.tools.proofs.Cited.{LineFault}
use Rattle.std.specs.Prelude.{MatchResult}
use Rattle.tools.specs.Readers.{Gives}
use Rattle.tools.specs.Lines.{some_command, words_read, line_read, ReadsLines, RefusesBehindLongest, MeansInRange, NoneIsLonger}
use Rattle.tools.specs.Lines.{FirstWordsDecide}
use Rattle.tools.specs.Commands.{grammar, script_lines}
use Rattle.tools.specs.declared.fault.LineFault.TheVariants as fault
use Rattle.tools.proofs.CommandLemmas.{lines_fit, lines_within}
use Rattle.tools.proofs.GrammarLemmas.{alive, follow, means, within}
use Rattle.tools.proofs.LineSetLemmas.{IsAlive, line_followed, followed_line, refused_longest, follow_front}

pub reads_lines : ReadsLines
reads_lines limit ws c = (followed_line (script_lines limit) 0 ws c, line_followed (script_lines limit) 0 ws c)

pub refuses_behind_longest : RefusesBehindLongest
refuses_behind_longest limit ws k refused =
    let live : IsAlive (script_lines limit) = alive (grammar limit) in
    let stop = refused_longest (script_lines limit) 0 ws k live.live live.some refused in
    let same : k ≡ stop.count = omega (arith, stop.place) in
    rw same stop.longest

pub means_in_range : MeansInRange
means_in_range limit = means (IsInRange limit) (grammar limit) (lines_fit limit)

-- ---- no line has more than the most words

pub none_is_longer : NoneIsLonger
none_is_longer limit = within MOST_WORDS (grammar limit) (lines_within limit)

command_front : (n : ℕ) (ws : List Word) → is_command (take (suc n) ws) ≡ is_command ws
command_front n [] = refl
command_front n (w ∷ ws) = refl

read_front : (limit n : ℕ) (ws : List Word) → IsWithin n (script_lines limit) → words_read limit (take (suc n) ws) ≡ words_read limit ws
read_front limit n ws h =
    ap (λ b. cond b (some_command (follow_words (script_lines limit) 0 (take (suc n) ws))) (Ok None)) (command_front n ws)
    ∙ ap (λ r. cond (is_command ws) (some_command r) (Ok None)) (follow_front n (script_lines limit) 0 ws h)

pub first_words_decide : FirstWordsDecide
first_words_decide limit ws = read_front limit MOST_WORDS ws (none_is_longer limit)

-- ---- what a line is read as, by its first words

-- where they are a command
command_words : (limit : ℕ) (line : List ℕ) (ws : List Word) → ws ≡ take (MOST_WORDS + 1) (words_of line) → is_command ws ≡ true
    → line_read limit line ≡ some_command (read_at (grammar limit) ws 0)
command_words limit line ws same is =
    sym (first_words_decide limit (words_of line)) ∙ ap (words_read limit) (sym same)
    ∙ ap (λ b. cond b (some_command (follow_words (script_lines limit) 0 ws)) (Ok None)) is
    ∙ ap some_command (follow (grammar limit) 0 ws)

-- what is read is given as the command of the line, or a fault
abbrev pub IsOfLine : (limit : ℕ) (line : List ℕ) → Result Cmd LineFault → Type 0
IsOfLine limit line result = MatchResult result (λ c. line_read limit line ≡ Ok (Some c)) (FaultIs (line_read limit line))

pub of_words : (limit : ℕ) (line : List ℕ) (ws : List Word) (result : Result Cmd LineFault) → ws ≡ take (MOST_WORDS + 1) (words_of line)
    → is_command ws ≡ true → Gives (read_at (grammar limit) ws 0) result → IsOfLine limit line result
of_words limit line ws (Ok c) same is h = command_words limit line ws same is ∙ ap some_command h
of_words limit line ws (Err (fault.Word k)) same is h = command_words limit line ws same is ∙ ap some_command h
of_words limit line ws (Err fault.Memory) same is h = tt

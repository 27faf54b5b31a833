-- A line of a script: a command of the grammar, none, or the first word that the grammar refuses.
use Rattle.std.specs.Prelude.{◌≡◌, ℕ, ◌+◌, ◌==◌, Bool, false, not, List, [], ◌∷◌, take, Option, Some, None, Result, Ok, Err, if◌then◌else◌}
use Rattle.tools.specs.Splits.{words_of}
use Rattle.tools.specs.LineSets.{Word, IsLine, IsLongest, IsWithin, follow_words}
use Rattle.tools.specs.Commands.{script_lines, MOST_WORDS, IsInRange}
use Rattle.tools.specs.declared.command.Cmd.{Cmd}

-- a line without words is no command, nor is one whose first word begins with `#`
abbrev pub begins_comment : Word → Bool
begins_comment [] = false
begins_comment (b ∷ bs) = b == 35

abbrev pub is_command : List Word → Bool
is_command [] = false
is_command (w ∷ ws) = not (begins_comment w)

abbrev pub some_command : Result Cmd ℕ → Result (Option Cmd) ℕ
some_command (Ok c) = Ok (Some c)
some_command (Err k) = Err k

-- what words are read as, and a line, where a block of the board has at most `limit` bytes
abbrev pub words_read : (limit : ℕ) → List Word → Result (Option Cmd) ℕ
words_read limit ws = if is_command ws then some_command (follow_words (script_lines limit) 0 ws) else Ok None

abbrev pub line_read : (limit : ℕ) → List ℕ → Result (Option Cmd) ℕ
line_read limit line = words_read limit (words_of line)

-- whatever the limit and the words: they are a line of the grammar exactly where they are read as what it means
abbrev pub ReadsLines : Type 0
ReadsLines =
    (limit : ℕ) (ws : List Word) (c : Cmd)
    → (follow_words (script_lines limit) 0 ws ≡ Ok c → IsLine (script_lines limit) ws c)
    × (IsLine (script_lines limit) ws c → follow_words (script_lines limit) 0 ws ≡ Ok c)

-- where word k is refused, the k words before it are the longest front that begins a line
abbrev pub RefusesBehindLongest : Type 0
RefusesBehindLongest = (limit : ℕ) (ws : List Word) (k : ℕ) → follow_words (script_lines limit) 0 ws ≡ Err k
    → IsLongest (script_lines limit) ws k

-- what a line means is in range
abbrev pub MeansInRange : Type 0
MeansInRange = (limit : ℕ) (ws : List Word) (c : Cmd) → IsLine (script_lines limit) ws c → IsInRange limit c

-- no line goes on after the most words
abbrev pub NoneIsLonger : Type 0
NoneIsLonger = (limit : ℕ) → IsWithin MOST_WORDS (script_lines limit)

-- so the most words, and one more, decide what all of the words are read as
abbrev pub FirstWordsDecide : Type 0
FirstWordsDecide = (limit : ℕ) (ws : List Word) → words_read limit (take (MOST_WORDS + 1) ws) ≡ words_read limit ws

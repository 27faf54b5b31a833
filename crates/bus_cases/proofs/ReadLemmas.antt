-- A command that is read is in range: its words are a line of the grammar, and what that means is in range.
use Rattle.std.proofs.Common.{◌≡◌, ℕ, Bool, true, false, cond, List, Some, None, refl, ap, ◌∙◌}
use Rattle.std.specs.Prelude.{Result, Ok, Err}
use Rattle.tools.specs.Lines.{ReadsLines, MeansInRange, is_command, some_command, line_read}
use Rattle.tools.specs.Splits.{words_of}
use Rattle.tools.specs.LineSets.{Word, follow_words}
use Rattle.tools.specs.Commands.{script_lines, IsInRange}
use Rattle.tools.specs.declared.command.Cmd.{Cmd}

module _ (reads : ReadsLines) (means : MeansInRange) (limit : ℕ) where
  words_in_range : (ws : List Word) (c : Cmd) (b : Bool) (r : Result Cmd ℕ) → follow_words (script_lines limit) 0 ws ≡ r
      → cond b (some_command r) (Ok None) ≡ Ok (Some c) → IsInRange limit c
  words_in_range ws c false r e h = absurd cc
  words_in_range ws c true (Ok d) e h = let same : d ≡ c = cc in means limit ws c ((reads limit ws c).0 (e ∙ ap Ok same))
  words_in_range ws c true (Err k) e h = absurd cc

  pub read_in_range : (line : List ℕ) (c : Cmd) → line_read limit line ≡ Ok (Some c) → IsInRange limit c
  read_in_range line c h =
      words_in_range (words_of line) c (is_command (words_of line)) (follow_words (script_lines limit) 0 (words_of line)) refl h

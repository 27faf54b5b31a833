-- The bytes of a report determine its journal.
use Rattle.std.specs.Prelude.{◌≡◌, ℕ, ◌==◌, false, List, [], ◌∷◌, ◌++◌, codes}
use Rattle.std.specs.List.{All, flat_map, list_any}
use Rattle.bus_spec.specs.Report.{report_lines}
use Rattle.bus_journal.specs.Ranges.{IsEntry}
use Rattle.i2c_base.specs.declared.entry.Entry.{Entry}

-- no line feed stands in it
abbrev pub IsLine : List ℕ → Type 0
IsLine line = list_any (λ c. c == 10) line ≡ false

abbrev pub line_ended : List ℕ → List ℕ
line_ended line = line ++ 10 ∷ []

-- a line of a caller's section: another one than that above the journal
pub record IsSectionLine (line : List ℕ) : Type 0 where
  pub one : IsLine line
  pub other : ¬ (line ≡ codes "journal")

-- whole lines, of which none is `journal`
pub record HasNoJournalLine (text : List ℕ) : Type 0 where
  pub lines : List (List ℕ)
  pub text_is : text ≡ flat_map line_ended lines
  pub others : All IsSectionLine lines

-- two equal reports, whose sections have no line `journal`, tell of the same entries
abbrev pub ReportsAreDistinct : Type 0
ReportsAreDistinct = (texts others : List (List ℕ)) (es fs : List Entry)
    → All HasNoJournalLine texts → All HasNoJournalLine others → All IsEntry es → All IsEntry fs
    → report_lines texts es ≡ report_lines others fs → es ≡ fs

-- The form of a report: whole lines, of which one is `journal`; after the first such the lines of entries; and `end` as the last one.
use Rattle.std.specs.Prelude.{◌≡◌, ◌⊎◌, ℕ, ◌+◌, ◌≤◌, ◌==◌, Bool, true, false, cond, List, [], ◌∷◌, ◌++◌, length, codes, take, drop, MatchBool}
use Rattle.std.specs.Str.{bytes_eq}
use Rattle.i2c_base.specs.declared.entry.Entry.{Entry}
use Rattle.i2c_base.specs.Board.{BoardView}
use Rattle.bus_spec.specs.Lines.{entry_line}
use Rattle.bus_journal.specs.Ranges.{IsEntry}
use Rattle.bus_journal.specs.Reports.{HasNoJournalLine}
use Rattle.bus_journal.specs.Told.{entries_of}
use Rattle.journal_check.specs.Gaps.{AreGapsOf}
use Rattle.journal_check.specs.Steps.{AreLines}
use Rattle.journal_check.specs.declared.gaps.RootGaps.{RootGaps}

-- a line, and whether a line feed ends it
pub record Line : Type 0 where
  pub text : List ℕ
  pub ended : Bool

abbrev pub last_line : List ℕ → List Line
last_line [] = []
last_line (c ∷ front) = (record { text = c ∷ front; ended = false }) ∷ []

-- the lines of a text, of which the first has this front already
abbrev pub lines_from : List ℕ → List ℕ → List Line
lines_from front [] = last_line front
lines_from front (c ∷ text) = cond (c == 10) ((record { text = front; ended = true }) ∷ lines_from [] text) (lines_from (front ++ c ∷ []) text)

abbrev pub lines_of : List ℕ → List Line
lines_of text = lines_from [] text

-- where a text stands: before the line `journal`, in the journal, after the line `end`
pub data Stage : Type 0 where
  Sections : Stage
  Entries : Stage
  Over : Stage

abbrev pub IsEntryLine : List ℕ → Type 0
IsEntryLine line = (e : Entry) × IsEntry e × (entry_line e ≡ line)

-- THE FIRST OFFENCE against the form is this line, where the next line has that number: one without a line feed; one that is no
-- entry's in the journal; any after `end`; and the missing one, where the text ends before `journal` or `end`
abbrev pub FirstOffence : Stage → ℕ → List Line → ℕ → Type 0
FirstOffence Sections n [] f = f ≡ n
FirstOffence Entries n [] f = f ≡ n
FirstOffence Over n [] f = ⊥
FirstOffence Sections n (l ∷ ls) f =
    MatchBool l.ended
    (MatchBool (bytes_eq l.text (codes "journal")) (FirstOffence Entries (n + 1) ls f) (FirstOffence Sections (n + 1) ls f))
    (f ≡ n)
FirstOffence Entries n (l ∷ ls) f =
    MatchBool l.ended
    (MatchBool (bytes_eq l.text (codes "end")) (FirstOffence Over (n + 1) ls f)
    ((IsEntryLine l.text × FirstOffence Entries (n + 1) ls f) ⊎ ((IsEntryLine l.text → ⊥) × (f ≡ n))))
    (f ≡ n)
FirstOffence Over n (l ∷ ls) f = f ≡ n

-- a text without one: what stands before the line `journal`, and the lines of the entries
pub record HasForm (text sections lines : List ℕ) : Type 0 where
  pub parts : text ≡ sections ++ (codes "journal\n" ++ (lines ++ codes "end\n"))
  pub others : HasNoJournalLine sections
  pub entries : AreLines lines (entries_of lines)

-- WHERE A READER STANDS behind the line `journal`: at this byte, where the line of that number begins
pub record HeadingAt (text : List ℕ) (at number : ℕ) : Type 0 where
  pub sections : List ℕ
  pub parts : text ≡ sections ++ (codes "journal\n" ++ drop at text)
  pub others : HasNoJournalLine sections
  pub within : at ≤ length text
  pub few : number ≤ 1 + length text
  pub goes : (f : ℕ) → FirstOffence Entries number (lines_of (drop at text)) f → FirstOffence Sections 1 (lines_of text) f

-- and at the line `end`, which is the last one: what stands before it are the lines of entries
pub record EndAt (text : List ℕ) (at : ℕ) (es : List Entry) : Type 0 where
  pub within : at ≤ length text
  pub parts : text ≡ take at text ++ codes "end\n"
  pub entries : AreLines (take at text) es

-- the line of an entry was added to the gaps
pub record HasAdded (b : BoardView) (line : List ℕ) (old new : List RootGaps) : Type 0 where
  pub entry : Entry
  pub in_range : IsEntry entry
  pub line_is : entry_line entry ≡ line
  pub more : (es : List Entry) → AreGapsOf b es old → AreGapsOf b (es ++ entry ∷ []) new

-- the gaps of each root of a board that the lines of entries tell
pub record TellsGaps (b : BoardView) (lines : List ℕ) (gaps : List RootGaps) : Type 0 where
  pub count : length gaps ≡ length b.roots
  pub told : AreGapsOf b (entries_of lines) gaps

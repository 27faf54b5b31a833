-- What a check of a report finds: that it is the report of a legal and complete journal, or the first thing that is wrong with it.
use Rattle.std.specs.Prelude.{◌≡◌, ℕ, ◌<◌, List, length, reverse, map}
use Rattle.std.specs.List.{All, range_with_len}
use Rattle.i2c_base.specs.declared.entry.Entry.{Entry}
use Rattle.i2c_base.specs.declared.reply.Reply.{Reply}
use Rattle.i2c_base.specs.Board.{BoardView}
use Rattle.i2c_spec.specs.History.{Asks}
use Rattle.i2c_spec.specs.Plain.{IsPlainBoard}
use Rattle.i2c_spec.specs.Rules.{MeetsRules}
use Rattle.bus_laws.specs.Reach.{AsksForMessages, AsksWithinLimits}
use Rattle.bus_journal.specs.Ranges.{IsEntry}
use Rattle.bus_journal.specs.Reports.{HasNoJournalLine}
use Rattle.bus_spec.specs.Legal.{IsLegal, IsComplete}
use Rattle.bus_spec.specs.Past.{now}
use Rattle.bus_spec.specs.Report.{report_of, sections, text_of}
use Rattle.flat_laws.specs.Ends.{IsDone}
use Rattle.bus_journal.specs.Told.{entries_of}
use Rattle.check_laws.specs.Wrong.{IsFirstWrong}
use Rattle.journal_check.specs.Forms.{Sections as InSections, FirstOffence, HasForm, lines_of}
use Rattle.journal_check.specs.Texts.{FirstOther}
use Rattle.journal_check.specs.declared.fault.CheckFault.{CheckFault}
use Rattle.journal_check.specs.declared.fault.CheckFault.TheVariants as fault

-- what a report is checked against: a board, so many callers, what they ask for, and what they print
pub record Checked : Type 0 where
  pub board : BoardView
  pub callers : ℕ
  pub asks : Asks
  pub printed : ℕ → List Reply → List ℕ

-- it can be: the board is an accepted one, the callers ask for transfers with messages and within the limits, and nobody else asks
-- for anything; and what a caller prints are whole lines, of which none is `journal`
pub record CanBeChecked (x : Checked) : Type 0 where
  pub plain : IsPlainBoard x.board
  pub rules : MeetsRules x.board
  pub some : AsksForMessages x.asks
  pub limits : AsksWithinLimits x.asks
  pub whole : (c : ℕ) (rs : List Reply) → HasNoJournalLine (x.printed c rs)

-- a text that has the form: its sections, and the lines of its entries
pub record IsRead (text : List ℕ) : Type 0 where
  pub front : List ℕ
  pub lines : List ℕ
  pub form : HasForm text front lines

abbrev pub IsLegalIn : Checked → List Entry → Type 0
IsLegalIn x es = IsLegal x.board x.callers x.asks (reverse es)

-- the least of so many callers that has not come to its end: it asks for something, or its walk is not whole
pub record IsFirstLeft (b : BoardView) (callers : ℕ) (asks : Asks) (es : List Entry) (c : ℕ) : Type 0 where
  pub low : c < callers
  pub not_ended : IsDone asks (now b asks (reverse es)) c → ⊥
  pub before : (d : ℕ) → d < c → IsDone asks (now b asks (reverse es)) d

-- the sections that a journal tells
abbrev pub sections_told : Checked → List Entry → List ℕ
sections_told x es = sections 0 (map (text_of x.printed es) (range_with_len 0 x.callers))

-- THE FAULTS, each only where none before it holds
pub record HasWrongEntry (x : Checked) (text : List ℕ) (i : ℕ) : Type 0 where
  pub read : IsRead text
  pub first : IsFirstWrong x.board x.callers x.asks (entries_of read.lines) i

pub record HasOpenCaller (x : Checked) (text : List ℕ) (c : ℕ) : Type 0 where
  pub read : IsRead text
  pub legal : IsLegalIn x (entries_of read.lines)
  pub first : IsFirstLeft x.board x.callers x.asks (entries_of read.lines) c

pub record HasOtherText (x : Checked) (text : List ℕ) (n : ℕ) : Type 0 where
  pub read : IsRead text
  pub legal : IsLegalIn x (entries_of read.lines)
  pub complete : IsComplete x.board x.callers x.asks (reverse (entries_of read.lines))
  pub first : FirstOther 1 (lines_of read.front) (lines_of (sections_told x (entries_of read.lines))) n

abbrev pub IsFaultIn : Checked → List ℕ → CheckFault → Type 0
IsFaultIn x text (fault.Form n) = FirstOffence InSections 1 (lines_of text) n
IsFaultIn x text (fault.Entry i) = HasWrongEntry x text i
IsFaultIn x text (fault.Open c) = HasOpenCaller x text c
IsFaultIn x text (fault.Text n) = HasOtherText x text n
IsFaultIn x text fault.Memory = ⊥

-- VERIFIED: the text is the report of a legal and complete journal of so many entries
pub record IsVerified (x : Checked) (text : List ℕ) (n : ℕ) : Type 0 where
  pub journal : List Entry
  pub in_range : All IsEntry journal
  pub legal : IsLegalIn x journal
  pub complete : IsComplete x.board x.callers x.asks (reverse journal)
  pub report : text ≡ report_of x.printed x.callers journal
  pub counted : length journal ≡ n

-- THE ENTRIES ALONE: what is wrong with them
pub data IsWrongIn (b : BoardView) (callers : ℕ) (asks : Asks) (es : List Entry) : CheckFault → Type 0 where
  AtEntry : (i : ℕ) → IsFirstWrong b callers asks es i → IsWrongIn b callers asks es (fault.Entry i)
  AtCaller : (c : ℕ) → IsLegal b callers asks (reverse es) → IsFirstLeft b callers asks es c → IsWrongIn b callers asks es (fault.Open c)

-- What a core makes of the steps that the lines of a journal tell.
use Rattle.std.specs.Prelude.{◌≡◌, ◌⊎◌, ℕ, ◌<◌, false, List, ◌∷◌, ◌++◌, length, drop, reverse, Option, None}
use Rattle.std.specs.List.{All, flat_map}
use Rattle.i2c_base.specs.declared.entry.Entry.{Entry}
use Rattle.i2c_base.specs.declared.reply.Reply.{Reply}
use Rattle.i2c_base.specs.Limits.{MOST_CALLERS}
use Rattle.i2c_base.specs.Transfer.{TransferView}
use Rattle.i2c_spec.specs.History.{Asks}
use Rattle.bus_spec.specs.Past.{now}
use Rattle.bus_spec.specs.Readings.{caller_of}
use Rattle.bus_spec.specs.Report.{ended_line}
use Rattle.bus_spec.specs.Stepwise.{IsStepwise}
use Rattle.bus_laws.specs.Ready.{IsStuck}
use Rattle.bus_journal.specs.Ranges.{IsEntry}
use Rattle.bus_core.specs.Answers.{IsStuckIn}
use Rattle.bus_core.specs.Kept.{HasTurn}
use Rattle.bus_core.specs.Opening.{Opening}
use Rattle.bus_core.specs.Places.{asks_of}
use Rattle.bus_core.specs.State.{CoreState, CoreTold, asks_in_state, has_caller}
use Rattle.check_laws.specs.Wrong.{BeginsWith}
use Rattle.journal_check.specs.declared.steps.JournalPlace.{JournalPlace}

-- a text is the lines of these entries
pub record AreLines (text : List ℕ) (es : List Entry) : Type 0 where
  pub lines : text ≡ flat_map ended_line es
  pub in_range : All IsEntry es

-- a caller's step has left the core so: a step of its own, whose lines stand at the front of a text
pub record HasMadeTold {S : Type 0} (asked : S → List Reply → Option TransferView) (caller : ℕ) (old new : CoreState S) (text : List ℕ)
    (count : ℕ) : Type 0 where
  pub room : new.journal.room < old.journal.room
  pub made : HasTurn old.opening.board (asks_in_state asked old) caller old.journal.entries new.journal.entries
  pub in_range : All IsEntry made.turn.entries
  pub stands : text ≡ flat_map ended_line made.turn.entries ++ drop count text

-- .. or one whose lines don't stand there
pub record HasMadeOther {S : Type 0} (asked : S → List Reply → Option TransferView) (caller : ℕ) (old new : CoreState S)
    (text : List ℕ) : Type 0 where
  pub made : HasTurn old.opening.board (asks_in_state asked old) caller old.journal.entries new.journal.entries
  pub differs : (more : List ℕ) → text ≡ flat_map ended_line made.turn.entries ++ more → ⊥

-- .. or it is stuck, and made none
abbrev pub HasMadeElse : {S : Type 0} → (S → List Reply → Option TransferView) → ℕ → CoreState S → CoreState S → List ℕ → Type 0
HasMadeElse asked caller old new text = IsStuckIn asked old caller ⊎ HasMadeOther asked caller old new text

-- over what a core was opened with each of these entries might come where it did, and no settle is due after them
abbrev pub asks_on : {S : Type 0} → (S → List Reply → Option TransferView) → Opening S → Asks
asks_on asked o = asks_of asked o.scripts

pub record IsSteady {S : Type 0} (asked : S → List Reply → Option TransferView) (o : Opening S) (es : List Entry) : Type 0 where
  pub stepwise : IsStepwise o.board MOST_CALLERS (asks_on asked o) (reverse es)
  pub rests : (now o.board (asks_on asked o) (reverse es)).due ≡ None

-- THE STEP THAT DIFFERS. The caller of the next entry made another step
pub record MadeAnother {S : Type 0} (asked : S → List Reply → Option TransferView) (o : Opening S) (v : CoreState S) (front : List Entry)
    (next : Entry) (rest : List Entry) : Type 0 where
  pub made : HasTurn o.board (asks_on asked o) (caller_of next) front v.journal.entries
  pub told : CoreTold asked v
  pub differs : BeginsWith made.turn.entries (next ∷ rest) → ⊥

-- the core has made the first of these entries, and then its caller is none of the core's, is stuck, or made another step
pub record Differs {S : Type 0} (asked : S → List Reply → Option TransferView) (o : Opening S) (v : CoreState S) (es : List Entry)
    (place : JournalPlace) : Type 0 where
  pub front : List Entry
  pub next : Entry
  pub rest : List Entry
  pub parts : es ≡ front ++ next ∷ rest
  pub in_range : All IsEntry (next ∷ rest)
  pub steady : IsSteady asked o front
  pub before : place.before ≡ length front
  pub at : place.at ≡ length (flat_map ended_line front)
  pub came : (has_caller o.scripts (caller_of next) ≡ false)
      ⊎ (IsStuck o.board (asks_on asked o) (reverse front) (caller_of next) ⊎ MadeAnother asked o v front next rest)

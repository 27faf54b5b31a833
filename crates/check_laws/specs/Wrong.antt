-- Where a journal stops being legal.
use Rattle.std.specs.Prelude.{◌≡◌, ◌⊎◌, ℕ, ◌+◌, ◌<◌, ◌≤◌, ◌==◌, ◌&&◌, List, [], ◌∷◌, ◌++◌, length, take, reverse, Some, None, slice_get, if◌then◌else◌}
use Rattle.i2c_base.specs.declared.entry.Entry.{Entry}
use Rattle.i2c_base.specs.Board.{BoardView}
use Rattle.i2c_spec.specs.History.{Asks}
use Rattle.bus_spec.specs.Legal.{IsLegal, is_stepping}
use Rattle.bus_spec.specs.Past.{now}
use Rattle.bus_spec.specs.Readings.{caller_of}
use Rattle.bus_spec.specs.Schedule.{Turn, is_settle, past_after}
use Rattle.bus_laws.specs.Coming.{IsTurn}
use Rattle.bus_laws.specs.Ready.{IsStuck}
use Rattle.journal_laws.specs.Layers.{BelongsTo}
use Rattle.check_laws.specs.Failed.{FailBy}

-- the entries up to this one, as a past
abbrev pub up_to : List Entry → ℕ → List Entry
up_to es i = reverse (take (i + 1) es)

-- this entry ends a step: a settle of its caller that stands directly after its message or line step belongs to that
pub record EndsStep (es : List Entry) (i : ℕ) : Type 0 where
  pub there : i < length es
  pub behind : (next : Entry) → slice_get es (i + 1) ≡ Some next → BelongsTo next (up_to es i) → ⊥

-- the entries up to this one aren't legal, and up to the end of each step before it they are
pub record IsFirstWrong (b : BoardView) (callers : ℕ) (asks : Asks) (es : List Entry) (i : ℕ) : Type 0 where
  pub ends : EndsStep es i
  pub wrong : IsLegal b callers asks (up_to es i) → ⊥
  pub before : (j : ℕ) → j < i → EndsStep es j → IsLegal b callers asks (up_to es j)

-- how many entries the first step of a list has
abbrev pub first_step : List Entry → ℕ
first_step [] = 0
first_step (e ∷ []) = 1
first_step (e ∷ s ∷ es) = if is_stepping e && (is_settle s && (caller_of e == caller_of s)) then 2 else 1

-- entries begin with these
abbrev pub BeginsWith : List Entry → List Entry → Type 0
BeginsWith front es = (rest : List Entry) × (es ≡ front ++ rest)

-- WHAT CAME of the caller of the next entry after a past: it is none of the callers, it was stuck, or it made a step that isn't the
-- front of what is told
pub record HasStepped (b : BoardView) (callers : ℕ) (asks : Asks) (gaps : ℕ → List ℕ) (past : List Entry) (caller : ℕ)
    (t : Turn) : Type 0 where
  pub own : t.caller ≡ caller
  pub comes : IsTurn b callers asks past t
  pub rests : (now b asks (past_after past t)).due ≡ None
  pub fails : FailBy b asks gaps (past_after past t)

pub record MadeAnother (b : BoardView) (callers : ℕ) (asks : Asks) (gaps : ℕ → List ℕ) (past : List Entry) (caller : ℕ)
    (told : List Entry) : Type 0 where
  pub turn : Turn
  pub stepped : HasStepped b callers asks gaps past caller turn
  pub differs : BeginsWith turn.entries told → ⊥

abbrev pub CantBeTold : BoardView → ℕ → Asks → (ℕ → List ℕ) → List Entry → ℕ → List Entry → Type 0
CantBeTold b callers asks gaps past caller told =
    (callers ≤ caller) ⊎ (IsStuck b asks past caller ⊎ MadeAnother b callers asks gaps past caller told)

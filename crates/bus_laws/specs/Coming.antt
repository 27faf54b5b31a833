-- What may come after a past, step by step.
use Rattle.std.specs.Prelude.{◌≡◌, ◌⊎◌, ℕ, true, List, [], ◌∷◌}
use Rattle.i2c_base.specs.declared.entry.Entry.{Entry}
use Rattle.i2c_base.specs.Board.{BoardView}
use Rattle.i2c_spec.specs.History.{Asks}
use Rattle.bus_spec.specs.Grammar.{first_act}
use Rattle.bus_spec.specs.Readings.{caller_of}
use Rattle.bus_spec.specs.Past.{now, is_due}
use Rattle.bus_spec.specs.Stepwise.{May}
use Rattle.bus_spec.specs.Legal.{is_stepping}
use Rattle.bus_spec.specs.Schedule.{Turn, past_after, is_settle}
use Rattle.bus_laws.specs.Others.{ahead}

-- a step of one entry
pub record IsOne (b : BoardView) (callers : ℕ) (asks : Asks) (past : List Entry) (t : Turn) : Type 0 where
  pub entry : Entry
  pub entries : t.entries ≡ entry ∷ []
  pub own : caller_of entry ≡ t.caller
  pub may : May b callers asks (now b asks past) entry
  -- a settle stands alone where it is all that is ahead
  pub alone : is_settle entry ≡ true → is_due (first_act (ahead b asks (now b asks past) t.caller)) ≡ true

-- one with its settle directly after it
pub record IsTwo (b : BoardView) (callers : ℕ) (asks : Asks) (past : List Entry) (t : Turn) : Type 0 where
  pub entry : Entry
  pub settle : Entry
  pub entries : t.entries ≡ entry ∷ settle ∷ []
  pub own : caller_of entry ≡ t.caller
  pub own_settle : caller_of settle ≡ t.caller
  pub steps : is_stepping entry ≡ true
  pub settles : is_settle settle ≡ true
  pub may : May b callers asks (now b asks past) entry
  pub may_settle : May b callers asks (now b asks (entry ∷ past)) settle

-- one step of the schedule
abbrev pub IsTurn : BoardView → ℕ → Asks → List Entry → Turn → Type 0
IsTurn b callers asks past t = IsOne b callers asks past t ⊎ IsTwo b callers asks past t

-- these steps come, one after the other
abbrev pub Comes : BoardView → ℕ → Asks → List Entry → List Turn → Type 0
Comes b callers asks past [] = Unit {0}
Comes b callers asks past (t ∷ ts) = IsTurn b callers asks past t × Comes b callers asks (past_after past t) ts

-- the past after them
abbrev pub after_all : List Entry → List Turn → List Entry
after_all past [] = past
after_all past (t ∷ ts) = after_all (past_after past t) ts

-- What a report of scripts is checked against, and what is left of a core that has made its journal again.
use Rattle.std.specs.Prelude.{◌≡◌, ℕ, List, length, map, reverse}
use Rattle.std.specs.List.{range_with_len}
use Rattle.i2c_base.specs.declared.entry.Entry.{Entry}
use Rattle.i2c_base.specs.Board.{BoardView}
use Rattle.i2c_base.specs.Limits.{MOST_CALLERS}
use Rattle.bus_core.specs.declared.seat.Seat.{Seat}
use Rattle.bus_spec.specs.Legal.{IsComplete}
use Rattle.bus_spec.specs.Past.{world_at, calls_of}
use Rattle.caller_core.specs.Scripts.{asked_by}
use Rattle.caller_core.specs.View.{CallerView, script_on}
use Rattle.journal_check.specs.Faults.{Checked, IsLegalIn}
use Rattle.i2c_top.specs.Callers.{asks_in, scripts_in, IsOver}
use Rattle.i2c_top.specs.Runs.{asks_by, printed_by, script_row}

-- scripts of these texts over a board, each at its number
abbrev pub checked_on : BoardView → List (List ℕ) → Checked
checked_on b texts = record { board = b; callers = length texts; asks = asks_by b texts; printed = printed_by b texts }

abbrev pub callers_on : List (Seat CallerView) → List CallerView
callers_on seats = map (λ (s : Seat CallerView). s.caller) seats

-- callers have followed a journal, which has these entries and is legal and complete, and each is over
pub record HasBeenChecked (b : BoardView) (texts : List (List ℕ)) (journal : List Entry) (seats : List (Seat CallerView))
    (entries : List Entry) : Type 0 where
  pub same : entries ≡ journal
  pub scripts_are : scripts_in script_row (callers_on seats) ≡ map (script_on b) texts
  pub legal : IsLegalIn (checked_on b texts) journal
  pub complete : IsComplete b (length texts) (asks_by b texts) (reverse journal)
  pub over : IsOver script_row b (callers_on seats) MOST_CALLERS journal
      (map (world_at b (asks_in asked_by (scripts_in script_row (callers_on seats))) (reverse journal)) (range_with_len 0 (length b.roots)))
      (map (calls_of b (asks_in asked_by (scripts_in script_row (callers_on seats))) (reverse journal)) (range_with_len 0 (length b.roots)))

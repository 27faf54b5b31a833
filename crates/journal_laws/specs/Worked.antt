-- A worked example: a journal that scripts make under a schedule.
use Rattle.std.specs.Prelude.{ℕ, List, length, reverse}
use Rattle.i2c_base.specs.declared.entry.Entry.{Entry}
use Rattle.i2c_base.specs.Board.{BoardView}
use Rattle.i2c_base.specs.Transfer.{TransferView}
use Rattle.bus_spec.specs.Legal.{IsLegal, IsComplete}
use Rattle.bus_spec.specs.Play.{transfers_of}
use Rattle.bus_spec.specs.Schedule.{Follows}

-- the journal, in order, is legal and complete for callers that ask for these transfers, and follows the schedule
pub record IsWorkedOut (b : BoardView) (scripts : List (List TransferView)) (words : List ℕ) (journal : List Entry) : Type 0 where
  pub legal : IsLegal b (length scripts) (transfers_of scripts) (reverse journal)
  pub complete : IsComplete b (length scripts) (transfers_of scripts) (reverse journal)
  pub follows : Follows words journal

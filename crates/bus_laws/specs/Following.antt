-- What a loop over a schedule keeps, said of the steps that may still come, and what it comes to.
use Rattle.std.specs.Prelude.{◌≡◌, ℕ, List, ◌++◌, reverse}
use Rattle.i2c_base.specs.declared.entry.Entry.{Entry}
use Rattle.i2c_base.specs.Board.{BoardView}
use Rattle.i2c_spec.specs.History.{Asks}
use Rattle.bus_spec.specs.Schedule.{Turn, turns, FollowsWords}
use Rattle.bus_laws.specs.Coming.{Comes}

-- a journal goes on from an older one by a schedule: the entries that it has more stand behind the old ones, and read as steps
-- they follow the words from there, and after the last word the least that is ready
pub record GoesOnBy (words : List ℕ) (old new : List Entry) : Type 0 where
  pub added : List Entry
  pub behind : new ≡ old ++ added
  pub follows : FollowsWords words (reverse old) (turns added)

-- this past goes on from an older one, with these of the words left: whatever comes later, where it follows the words that are
-- left, what was added and what comes follow all words from there
pub record KeepsTo (b : BoardView) (callers : ℕ) (asks : Asks) (words : List ℕ) (from : List Entry) (left : List ℕ)
    (past : List Entry) : Type 0 where
  pub added : List Entry
  pub behind : reverse past ≡ reverse from ++ added
  pub follows : (later : List Turn) → Comes b callers asks past later → FollowsWords left past later
      → FollowsWords words from (turns added ++ later)

-- A core that has followed a journal.
use Rattle.std.specs.Prelude.{◌≡◌, ℕ, Bool, List, Option, reverse}
use Rattle.i2c_base.specs.declared.entry.Entry.{Entry}
use Rattle.i2c_base.specs.declared.reply.Reply.{Reply}
use Rattle.i2c_base.specs.Transfer.{TransferView}
use Rattle.bus_core.specs.Opening.{Opening}
use Rattle.bus_core.specs.State.{AllThrough, CoreState}
use Rattle.bus_spec.specs.Legal.{IsLegal, IsComplete}
use Rattle.journal_check.specs.Steps.{IsSteady, asks_on}

-- it was opened with the same, its journal has these entries, each of which might come where it did, and no settle is due
pub record HasFollowed {S : Type 0} (asked : S → List Reply → Option TransferView) (o : Opening S) (es : List Entry) (v : CoreState S) : Type 0 where
  pub opening : v.opening ≡ o
  pub entries : v.journal.entries ≡ es
  pub steady : IsSteady asked o es

-- and nothing is wrong with them; each caller has taken the replies that they tell
pub record HasPassed {S : Type 0} (asked : S → List Reply → Option TransferView) (tells : Bool) (o : Opening S) (count : ℕ) (es : List Entry)
    (v : CoreState S) : Type 0 where
  pub followed : HasFollowed asked o es v
  pub legal : IsLegal o.board count (asks_on asked o) (reverse es)
  pub complete : IsComplete o.board count (asks_on asked o) (reverse es)
  pub through : AllThrough asked tells v

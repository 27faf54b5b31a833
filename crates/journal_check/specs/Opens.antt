-- Which caller has not come to its end.
use Rattle.std.specs.Prelude.{ℕ, ◌<◌, List, Option}
use Rattle.i2c_base.specs.declared.reply.Reply.{Reply}
use Rattle.i2c_base.specs.Transfer.{TransferView}
use Rattle.bus_core.specs.Answers.{IsOverIn}
use Rattle.bus_core.specs.State.{CoreState}

-- by a core's journal this is the least of so many callers that asks for something, or whose walk has not ended
pub record IsFirstOpen {S : Type 0} (asked : S → List Reply → Option TransferView) (v : CoreState S) (count caller : ℕ) : Type 0 where
  pub low : caller < count
  pub not_over : IsOverIn asked v caller → ⊥
  pub before : (d : ℕ) → d < caller → IsOverIn asked v d

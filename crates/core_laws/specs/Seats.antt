-- What is left of a transfer's walk, on boards with lines as well.
use Rattle.std.specs.Prelude.{◌≡◌, ◌⊎◌, ℕ, suc, ◌+◌, Bool, false, List, length, Option, Some}
use Rattle.i2c_base.specs.declared.errno.Errno.{Errno}
use Rattle.i2c_base.specs.Board.{BoardView}
use Rattle.i2c_base.specs.Transfer.{TransferView}
use Rattle.i2c_spec.specs.Messages.{MessageView}
use Rattle.bus_spec.specs.Walk.{Call, Send, Settle, WalkTree}
use Rattle.bus_spec.specs.Grammar.{first_act}
use Rattle.bus_laws.specs.Calls.{CallsOf, FirstCalls}
use Rattle.bus_laws.specs.Settles.{NoSettle, Settles}
use Rattle.bus_laws.specs.Jobs.{EachJob, IsJobOf}

-- message k of the caller's, from 0, comes next
pub record ComesNext (w : WalkTree) (k : ℕ) : Type 0 where
  pub bus : ℕ
  pub messages : List MessageView
  pub left : ℕ
  pub first : first_act w ≡ Some (Send (Call bus messages) left)
  pub count : k + suc left ≡ length messages

-- so many messages of the caller's were sent: the next one comes next, or none was and the first one is still to come
abbrev pub Counts : WalkTree → ℕ → Type 0
Counts w k = ComesNext w k ⊎ (FirstCalls w × (k ≡ 0))

-- this is left of the walk of a transfer, of which so many messages were sent and which has settled or not; its settle isn't
-- next
pub record IsLeft (b : BoardView) (t : TransferView) (settled : Bool) (sent : ℕ) (w : WalkTree) : Type 0 where
  pub calls : CallsOf b t w
  pub settles : Settles settled w
  pub jobs : EachJob (IsJobOf b t) w
  pub quiet : NoSettle w
  pub counts : settled ≡ false → Counts w sent

-- .. and its settle comes next
pub record IsDecided (b : BoardView) (t : TransferView) (verdict : Option Errno) (w : WalkTree) : Type 0 where
  pub calls : CallsOf b t w
  pub settles : Settles false w
  pub jobs : EachJob (IsJobOf b t) w
  pub first : first_act w ≡ Some (Settle verdict)

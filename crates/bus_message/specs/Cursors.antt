-- A caller's transfer partway, as far as its next message goes.
use Rattle.std.specs.Prelude.{◌≡◌, ℕ, ◌<◌, length, take, sum_by}
use Rattle.i2c_base.specs.declared.tree.Grant.{Grant}
use Rattle.i2c_base.specs.Board.{BoardView}
use Rattle.i2c_base.specs.Transfer.{TransferView, written_of}
use Rattle.i2c_spec.specs.Grant.{grant_of}
use Rattle.i2c_spec.specs.Messages.{MessageView}
use Rattle.mux_plan.specs.declared.task.NextMsg.{NextMsg}
use Rattle.bus_message.specs.Sends.{call_message, message_for}

-- a transfer of which so many messages and bytes of its writes are gone, and to whom its next message leads
pub record CursorView : Type 0 where
  pub transfer : TransferView
  pub sent : ℕ
  pub written : ℕ
  pub grant : Grant

-- a message is left; what the messages before it wrote was counted, and its address leads there
pub record HasNext (b : BoardView) (c : CursorView) : Type 0 where
  pub more : c.sent < length c.transfer.msgs
  pub wrote : c.written ≡ sum_by written_of (take c.sent c.transfer.msgs)
  pub grants : c.grant ≡ grant_of b c.transfer.bus (call_message c.transfer c.sent).addr c.transfer.force

-- what goes over the wires: the next message of the caller's, or a control message to this address
abbrev pub wire_message : CursorView → NextMsg → ℕ → MessageView
wire_message c next addr = message_for c.transfer c.sent next.purpose next.control addr

-- A command that makes two SMBus calls: it sends a byte, and then receives one, but not behind an error.
use Rattle.std.specs.Prelude.{ℕ, ◌==◌, List, [], ◌∷◌, slice_get, slice_index_or, Option, Some, None, if◌then◌else◌}
use Rattle.i2c_base.specs.declared.reply.Reply.{Reply}
use Rattle.i2c_base.specs.declared.reply.Reply.TheVariants as reply
use Rattle.smb_emul.specs.Calls.{messages_of_call}
use Rattle.smb_emul.specs.declared.call.SmbCall.{SmbCall}
use Rattle.smb_emul.specs.declared.call.SmbOp.{SmbOp}
use Rattle.smb_emul.specs.declared.call.SmbOp.TheVariants as op
use Rattle.tools.specs.Calls.{call_to, call_text}
use Rattle.tools.specs.Dialogues.{Dialogue}
use Rattle.tools.specs.Replies.{is_error}
use Rattle.tools.specs.declared.run.chain.Chain.{Chain}

-- what the call at a place does, and that call
abbrev pub chained_op : Chain → ℕ → SmbOp
chained_op c k = if k == 0 then op.SendByte c.sent else op.ReceiveByte

abbrev pub chained : Chain → ℕ → SmbCall
chained c k = call_to c.to (chained_op c k)

-- the value that was received, or why nothing was sent
abbrev pub chain_text : Chain → Reply → Option Reply → List ℕ
chain_text c sent None = call_text (chained c 0) sent
chain_text c sent (Some received) = call_text (chained c 1) received

-- what it says to the bus: an error of the first call passes over all places
abbrev pub chains : Chain → Dialogue
chains c =
    record {
      places = 2;
      at = λ k. messages_of_call (chained c k);
      skips = λ k r. if is_error r then 2 else 0;
      lines = λ rs. chain_text c (slice_index_or rs 0 reply.Done) (slice_get rs 1) ∷ [];
      most = 27;
    }

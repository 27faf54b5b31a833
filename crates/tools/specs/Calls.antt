-- A command that makes one SMBus call.
use Rattle.std.specs.Prelude.{◌≡◌, ℕ, ◌+◌, ◌*◌, List, [], ◌∷◌, slice_index_or}
use denote.Bor.{Bor}
use Rattle.i2c_base.specs.Limits.{LARGEST_BLOCK}
use Rattle.i2c_base.specs.declared.reply.Reply.{Reply}
use Rattle.i2c_base.specs.declared.reply.Reply.TheVariants as reply
use Rattle.smb_emul.specs.Calls.{call_row, messages_of_call, value_of_call}
use Rattle.smb_emul.specs.declared.call.SmbCall.{SmbCall}
use Rattle.smb_emul.specs.declared.call.SmbOp.{SmbOp}
use Rattle.smb_emul.specs.declared.call.SmbOp.TheVariants as op
use Rattle.tools.specs.Dialogues.{Dialogue}
use Rattle.tools.specs.Values.{call_result_text}
use Rattle.tools.specs.declared.run.call.Callee.{Callee}
use Rattle.tools.specs.declared.run.call.HeldCall.{HeldCall}
use Rattle.tools.specs.declared.run.call.HeldOp.{HeldOp}
use Rattle.tools.specs.declared.run.call.HeldOp.TheVariants as held

-- a call, as it is kept
abbrev pub call_to : Callee → SmbOp → SmbCall
call_to c o = record { bus = c.bus; addr = c.addr; force = c.force; pec = c.pec; op = o }

-- bytes as a call has them, wherever they stand
abbrev pub lent : List ℕ → Bor (List ℕ)
lent bytes = record { ref_ptr = (0, 0); now = bytes }

abbrev pub smb_op : HeldOp → SmbOp
smb_op (held.SendByte b) = op.SendByte b
smb_op held.ReceiveByte = op.ReceiveByte
smb_op (held.WriteByte r b) = op.WriteByte r b
smb_op (held.WriteWord r v) = op.WriteWord r v
smb_op (held.BlockWrite r bytes) = op.BlockWrite r (lent bytes)
smb_op (held.I2cBlockWrite r bytes) = op.I2cBlockWrite r (lent bytes)
smb_op (held.ReadByte r) = op.ReadByte r
smb_op (held.ReadWord r) = op.ReadWord r
smb_op (held.BlockRead r) = op.BlockRead r
smb_op (held.I2cBlockRead r n) = op.I2cBlockRead r n
smb_op (held.ProcCall r v) = op.ProcCall r v
smb_op (held.BlockProc r bytes) = op.BlockProc r (lent bytes)

abbrev pub held_call : HeldCall → SmbCall
held_call h = call_to h.to (smb_op h.op)

-- the value of a call, or why there is none
abbrev pub call_text : SmbCall → Reply → List ℕ
call_text call r = call_result_text (value_of_call call r)

-- the block that it reads has at most so many bytes
abbrev pub block_most : SmbOp → ℕ
block_most op.Quick = 0
block_most (op.SendByte b) = 0
block_most op.ReceiveByte = 0
block_most (op.WriteByte c b) = 0
block_most (op.ReadByte c) = 0
block_most (op.WriteWord c v) = 0
block_most (op.ReadWord c) = 0
block_most (op.ProcCall c v) = 0
block_most (op.BlockWrite c bytes) = 0
block_most (op.BlockRead c) = LARGEST_BLOCK
block_most (op.BlockProc c bytes) = LARGEST_BLOCK
block_most (op.I2cBlockWrite c bytes) = 0
block_most (op.I2cBlockRead c n) = n

-- one call does the same as another, wherever its block stands
pub record DoesTheSame (o other : SmbOp) : Type 0 where
  pub row : call_row o ≡ call_row other
  pub most : block_most o ≡ block_most other

-- its text has at most so many bytes: a wrong error code has 26, and a byte of a block 5
abbrev pub text_most : SmbOp → ℕ
text_most o = 26 + 5 * block_most o

-- what it says to the bus
abbrev pub calls : HeldCall → Dialogue
calls h =
    record {
      places = 1;
      at = λ k. messages_of_call (held_call h);
      skips = λ k r. 0;
      lines = λ rs. call_text (held_call h) (slice_index_or rs 0 reply.Done) ∷ [];
      most = text_most (smb_op h.op) + 1;
    }

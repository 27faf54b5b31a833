-- What is so of each form: its transfers are within the limits where its fields are in their ranges, and what it prints is lines of a
-- section.
use Rattle.tools.proofs.Cited.{ℕ, ◌^◌, ◌<◌, true, false, cond, List, [], ◌∷◌, length, Option, Some, None, arith, ◌==◌, All, slice_get}
use Rattle.tools.proofs.Cited.{slice_index_or, All-nil, All-cons, IsSectionLine, IsTargetAddress, IsByte, AreBytes, LARGEST_BLOCK}
use Rattle.tools.proofs.Cited.{low_byte_first, Reply, messages_of_call, IsBlockLength, call_to, call_text, IsCombinedInRange, IsDumpInRange}
use Rattle.tools.proofs.Cited.{Dump, Combined, Detect, Callee, Chain}
use Rattle.std.specs.Prelude.{⊤}
use Rattle.i2c_base.specs.Limits.{I2C_BLOCK_LIMIT}
use Rattle.i2c_base.specs.declared.reply.Reply.TheVariants as reply
use Rattle.smb_emul.specs.declared.call.SmbOp.TheVariants as op
use Rattle.tools.specs.Calls.{held_call, lent}
use Rattle.tools.specs.Chains.{chain_text}
use Rattle.tools.specs.Runs.{dialogue_of}
use Rattle.tools.specs.declared.run.ToolRun.{ToolRun}
use Rattle.tools.specs.declared.run.ToolRun.TheVariants as run
use Rattle.tools.specs.declared.run.call.HeldCall.{HeldCall}
use Rattle.tools.specs.declared.run.call.HeldOp.{HeldOp}
use Rattle.tools.specs.declared.run.call.HeldOp.TheVariants as held
use Rattle.tools.proofs.DumpLemmas.{dump_asks, dump_section}
use Rattle.tools.proofs.MessageLemmas.{messages_ask, reply_line}
use Rattle.tools.proofs.ScanLemmas.{probe_asks, printed_lines}
use Rattle.tools.proofs.TransferLemmas.{IsAsk, call_asks, short_byte, short_bytes, word_bytes}
use Rattle.tools.proofs.ValueLemmas.{result_line}

-- each of its transfers is within the limits
abbrev pub AsksWithin : ToolRun → Type 0
AsksWithin r = (k : ℕ) → k < (dialogue_of r).places → IsAsk ((dialogue_of r).at k)

-- whatever the replies, what it prints is lines, of which none is `journal`
abbrev pub HasSectionLines : ToolRun → Type 0
HasSectionLines r = (replies : List Reply) → All IsSectionLine ((dialogue_of r).lines replies)

-- ---- its transfers

-- the bytes of a call are bytes, and a block has a length that it may have
abbrev pub IsHeld : HeldOp → Type 0
IsHeld (held.SendByte b) = IsByte b
IsHeld held.ReceiveByte = ⊤
IsHeld (held.WriteByte r b) = IsByte r × IsByte b
IsHeld (held.WriteWord r v) = IsByte r × (v < 2 ^ 16)
IsHeld (held.BlockWrite r bytes) = IsByte r × (AreBytes bytes × IsBlockLength LARGEST_BLOCK (length bytes))
IsHeld (held.I2cBlockWrite r bytes) = IsByte r × (AreBytes bytes × IsBlockLength I2C_BLOCK_LIMIT (length bytes))
IsHeld (held.ReadByte r) = IsByte r
IsHeld (held.ReadWord r) = IsByte r
IsHeld (held.BlockRead r) = IsByte r
IsHeld (held.I2cBlockRead r n) = IsByte r × IsBlockLength I2C_BLOCK_LIMIT n
IsHeld (held.ProcCall r v) = IsByte r × (v < 2 ^ 16)
IsHeld (held.BlockProc r bytes) = IsByte r × (AreBytes bytes × IsBlockLength LARGEST_BLOCK (length bytes))

module _ (to : Callee) (near : IsTargetAddress to.addr) where
  receives_asks : IsAsk (messages_of_call (call_to to op.ReceiveByte))
  receives_asks = call_asks (call_to to op.ReceiveByte) (λ e. near.1) tt (omega arith, omega arith) (omega arith)

  pub call_asks_within : (o : HeldOp) → IsHeld o → AsksWithin (run.Calls (record { to = to; op = o }))
  call_asks_within (held.SendByte b) is k within = call_asks (call_to to (op.SendByte b)) (λ e. near.1) (short_byte b is) tt (omega arith)
  call_asks_within held.ReceiveByte is k within = receives_asks
  call_asks_within (held.WriteByte r b) is k within =
      call_asks (call_to to (op.WriteByte r b)) (λ e. near.1) (short_bytes r (b ∷ []) is.0 (All-cons IsByte b [] is.1 (All-nil IsByte))
      (omega arith))
      tt (omega arith)
  call_asks_within (held.WriteWord r v) is k within =
      call_asks (call_to to (op.WriteWord r v)) (λ e. near.1) (short_bytes r (low_byte_first v) is.0 (word_bytes v is.1) (omega arith)) tt
      (omega arith)
  call_asks_within (held.BlockWrite r bytes) is k within =
      call_asks (call_to to (op.BlockWrite r (lent bytes))) (λ e. near.1) (short_bytes r (length bytes ∷ bytes) is.0
      (All-cons IsByte (length bytes) bytes (omega (arith, is.1.1.1)) is.1.0) (omega (arith, is.1.1.1))) tt (omega arith)
  call_asks_within (held.I2cBlockWrite r bytes) is k within =
      call_asks (call_to to (op.I2cBlockWrite r (lent bytes))) (λ e. near.1) (short_bytes r bytes is.0 is.1.0 (omega (arith, is.1.1.1))) tt
      (omega arith)
  call_asks_within (held.ReadByte r) is k within =
      call_asks (call_to to (op.ReadByte r)) (λ e. near.1) (short_byte r is) (omega arith, omega arith) (omega arith)
  call_asks_within (held.ReadWord r) is k within =
      call_asks (call_to to (op.ReadWord r)) (λ e. near.1) (short_byte r is) (omega arith, omega arith) (omega arith)
  call_asks_within (held.BlockRead r) is k within = call_asks (call_to to (op.BlockRead r)) (λ e. near.1) (short_byte r is) tt (omega arith)
  call_asks_within (held.I2cBlockRead r n) is k within =
      call_asks (call_to to (op.I2cBlockRead r n)) (λ e. near.1) (short_byte r is.0) is.1 (omega arith)
  call_asks_within (held.ProcCall r v) is k within =
      call_asks (call_to to (op.ProcCall r v)) (λ e. near.1) (short_bytes r (low_byte_first v) is.0 (word_bytes v is.1) (omega arith))
      (omega arith, omega arith) (omega arith)
  call_asks_within (held.BlockProc r bytes) is k within =
      call_asks (call_to to (op.BlockProc r (lent bytes))) (λ e. near.1) (short_bytes r (length bytes ∷ bytes) is.0
      (All-cons IsByte (length bytes) bytes (omega (arith, is.1.1.1)) is.1.0) (omega (arith, is.1.1.1))) tt (omega arith)

  pub chain_asks_within : (sent : ℕ) → IsByte sent → AsksWithin (run.Chains (record { to = to; sent = sent }))
  chain_asks_within sent is k within =
      elim (k == 0) as (λ b. IsAsk (messages_of_call (call_to to (cond b (op.SendByte sent) op.ReceiveByte)))) [
        | true ↦ call_asks (call_to to (op.SendByte sent)) (λ e. near.1) (short_byte sent is) tt (omega arith)
        | false ↦ receives_asks
      ]

pub transfer_asks_within : (c : Combined) → IsCombinedInRange c → AsksWithin (run.Transfers c)
transfer_asks_within c range k within = messages_ask c range

pub scan_asks_within : (d : Detect) → AsksWithin (run.Scans d)
scan_asks_within d k within = probe_asks d k within

pub dump_asks_within : (d : Dump) → IsDumpInRange d → AsksWithin (run.Dumps d)
dump_asks_within d range = dump_asks d range

pub says_nothing : (lines : List (List ℕ)) → AsksWithin (run.Says lines)
says_nothing lines k within = absurd (omega arith)

-- ---- its lines

pub one_line : (line : List ℕ) → IsSectionLine line → All IsSectionLine (line ∷ [])
one_line line is = All-cons IsSectionLine line [] is (All-nil IsSectionLine)

pub says_lines : (lines : List (List ℕ)) → All IsSectionLine lines → HasSectionLines (run.Says lines)
says_lines lines are replies = are

pub call_lines : (call : HeldCall) → HasSectionLines (run.Calls call)
call_lines call replies = one_line (call_text (held_call call) (slice_index_or replies 0 reply.Done)) (result_line _)

chain_line : (c : Chain) (sent : Reply) (received : Option Reply) → IsSectionLine (chain_text c sent received)
chain_line c sent None = result_line _
chain_line c sent (Some r) = result_line _

pub chain_lines : (c : Chain) → HasSectionLines (run.Chains c)
chain_lines c replies =
    one_line (chain_text c (slice_index_or replies 0 reply.Done) (slice_get replies 1))
    (chain_line c (slice_index_or replies 0 reply.Done) (slice_get replies 1))

pub transfer_lines : (c : Combined) → HasSectionLines (run.Transfers c)
transfer_lines c replies = reply_line c.messages (slice_index_or replies 0 reply.Done)

pub scan_lines : (d : Detect) → HasSectionLines (run.Scans d)
scan_lines d replies = printed_lines d replies

pub dump_section_lines : (d : Dump) → HasSectionLines (run.Dumps d)
dump_section_lines d = dump_section d

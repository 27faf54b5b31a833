-- How long the value of an SMBus call is, and which replies its transfer may get.
use Rattle.tools.proofs.Cited.{◌≡◌, ℕ, ◌+◌, ◌-◌, ◌≤◌, Bool, true, false, cond, List, [], ◌∷◌, ◌++◌, length, take, drop, get_or, Ok, Err}
use Rattle.tools.proofs.Cited.{Some, refl, subst, ap, length-drop, arith, ◌==◌, slice_get, call_result_text, Callee, Fits, Reply}
use Rattle.tools.proofs.Cited.{messages_of_call, call_row, is_coded, write_messages, read_messages, bytes_sent, SmbCall, SmbOp, call_to}
use Rattle.tools.proofs.Cited.{call_text, chains, Dialogue, AreReplies, next_place, Chain}
use Rattle.std.proofs.Common.{length-take}
use Rattle.std.specs.Prelude.{◌&&◌}
use Rattle.i2c_base.specs.declared.transfer.TransferKind.TheVariants.{Smbus}
use Rattle.tools.specs.Values.{block_of_value, block_in}
use Rattle.i2c_base.specs.Fitting.{count_of}
use Rattle.i2c_base.specs.declared.reply.Reply.TheVariants as reply
use Rattle.i2c_spec.specs.SmbusCalls.{block_read_row, block_proc_row}
use Rattle.i2c_spec.specs.declared.smbus_row.CallRow.{CallRow}
use Rattle.smb_emul.specs.Calls.{value_of_call, read_value, wanted_code, value_by}
use Rattle.smb_emul.specs.declared.call.SmbFail.TheVariants.{Pec}
use Rattle.smb_emul.specs.declared.call.SmbOp.TheVariants as op
use Rattle.tools.specs.Calls.{DoesTheSame, block_most}
use Rattle.tools.specs.Chains.{chained}

-- ---- how long a block is

-- the block in what is read has at most so many bytes, where that of the bytes before an error code has
block_bound : (addr : ℕ) (coded : Bool) (row : CallRow) (bytes : List ℕ) (most : ℕ)
    → ((held : List ℕ) → length held ≤ length bytes - cond coded 1 0 → length (block_of_value (value_by row.value held)) ≤ most)
    → length (block_in (read_value addr coded row bytes)) ≤ most
block_bound addr false row bytes most h = h bytes (omega arith)
block_bound addr true row bytes most h =
    let held : List ℕ = take (length bytes - 1) bytes in
    let got : ℕ = get_or bytes (length bytes - 1) 0 in
    elim (got == wanted_code addr row held) as
    (λ b. length (block_in (cond b (Ok (value_by row.value held)) (Err (Pec got (wanted_code addr row held))))) ≤ most) [
      | true ↦ h held (omega (arith, length-take (length bytes - 1) bytes))
      | false ↦ omega arith
    ]

-- the block that a call reads has at most so many bytes
abbrev IsShort : ℕ → SmbCall → Type 0
IsShort most call = (bytes : List ℕ) → Fits (messages_of_call call) (reply.Read bytes)
    → length (block_in (value_of_call call (reply.Read bytes))) ≤ most

no_block : (call : SmbCall) → ((held : List ℕ) → block_of_value (value_by (call_row call.op).value held) ≡ []) → IsShort 0 call
no_block call none bytes fits = block_bound call.addr (is_coded call) (call_row call.op) bytes 0
    (λ held few. omega (arith, ap length (none held)))

-- a read of so many bytes brings no more
exact : (n : ℕ) (bytes : List ℕ) → (n ≤ length bytes) × (drop n bytes ≡ []) → length bytes ≤ n
exact n bytes h = omega (arith, ap length h.1, length-drop n bytes)

-- of a block after its count
counted : (addr : ℕ) (coded : Bool) (row : CallRow) (bytes : List ℕ)
    → ((held : List ℕ) → block_of_value (value_by row.value held) ≡ drop 1 held) → length bytes ≤ 256 + cond coded 1 0
    → length (block_in (read_value addr coded row bytes)) ≤ 255
counted addr true row bytes is few =
    block_bound addr true row bytes 255 (λ held less. omega (arith, ap length (is held), length-drop 1 held, few, less))
counted addr false row bytes is few =
    block_bound addr false row bytes 255 (λ held less. omega (arith, ap length (is held), length-drop 1 held, few, less))

module _ (bus addr : ℕ) (force : Bool) where
  abbrev call_by : Bool → SmbOp → SmbCall
  call_by pec o = record { bus = bus; addr = addr; force = force; pec = pec; op = o }

  short_by : (pec : Bool) (o : SmbOp) → IsShort (block_most o) (call_by pec o)
  short_by pec op.Quick = no_block (call_by pec op.Quick) (λ held. refl)
  short_by pec (op.SendByte b) = no_block (call_by pec (op.SendByte b)) (λ held. refl)
  short_by pec op.ReceiveByte = no_block (call_by pec op.ReceiveByte) (λ held. refl)
  short_by pec (op.WriteByte r b) = no_block (call_by pec (op.WriteByte r b)) (λ held. refl)
  short_by pec (op.ReadByte r) = no_block (call_by pec (op.ReadByte r)) (λ held. refl)
  short_by pec (op.WriteWord r v) = no_block (call_by pec (op.WriteWord r v)) (λ held. refl)
  short_by pec (op.ReadWord r) = no_block (call_by pec (op.ReadWord r)) (λ held. refl)
  short_by pec (op.ProcCall r v) = no_block (call_by pec (op.ProcCall r v)) (λ held. refl)
  short_by pec (op.BlockWrite r sent) = no_block (call_by pec (op.BlockWrite r sent)) (λ held. refl)
  short_by pec (op.I2cBlockWrite r sent) = no_block (call_by pec (op.I2cBlockWrite r sent)) (λ held. refl)
  short_by true (op.I2cBlockRead r n) = λ bytes fits. exact n bytes fits.1
  short_by false (op.I2cBlockRead r n) = λ bytes fits. exact n bytes fits.1
  short_by true (op.BlockRead r) = λ bytes fits. counted addr true (block_read_row r) bytes (λ held. refl)
      (let all : length bytes ≤ 2 + count_of bytes = exact (2 + count_of bytes) bytes (fits.1.0.2, fits.1.1) in
      omega (arith, all, fits.1.0.1))
  short_by false (op.BlockRead r) = λ bytes fits. counted addr false (block_read_row r) bytes (λ held. refl)
      (let all : length bytes ≤ 1 + count_of bytes = exact (1 + count_of bytes) bytes (fits.1.0.2, fits.1.1) in
      omega (arith, all, fits.1.0.1))
  short_by true (op.BlockProc r sent) = λ bytes fits. counted addr true (block_proc_row r sent.now) bytes (λ held. refl)
      (let all : length bytes ≤ 2 + count_of bytes = exact (2 + count_of bytes) bytes (fits.1.0.2, fits.1.1) in
      omega (arith, all, fits.1.0.1))
  short_by false (op.BlockProc r sent) = λ bytes fits. counted addr false (block_proc_row r sent.now) bytes (λ held. refl)
      (let all : length bytes ≤ 1 + count_of bytes = exact (1 + count_of bytes) bytes (fits.1.0.2, fits.1.1) in
      omega (arith, all, fits.1.0.1))

-- a block that comes has at most so many bytes as are told
pub short : (call : SmbCall) (bytes : List ℕ) → Fits (messages_of_call call) (reply.Read bytes)
    → length (block_in (value_of_call call (reply.Read bytes))) ≤ block_most call.op
short call = short_by call.bus call.addr call.force call.pec call.op

-- ---- the same call, wherever its block stands

module _ (to : Callee) (o other : SmbOp) (same : DoesTheSame o other) where
  pub same_messages : messages_of_call (call_to to o) ≡ messages_of_call (call_to to other)
  same_messages = ap (λ (row : CallRow). record {
    bus = to.bus;
    kind = Smbus;
    force = to.force;
    msgs = write_messages to.addr (to.pec && row.checked) row.read row.write ++ read_messages to.addr (to.pec && row.checked) row.read;
    out = bytes_sent to.addr (to.pec && row.checked) row.read row.write;
  }) same.row

  pub same_text : (r : Reply) → call_text (call_to to o) r ≡ call_text (call_to to other) r
  same_text reply.Done = refl
  same_text (reply.Read bytes) = ap (λ (row : CallRow). call_result_text (read_value to.addr (to.pec && row.checked) row bytes)) same.row
  same_text (reply.Err e) = refl

-- ---- which replies are given

pub some_same : (r s : Reply) → Some r ≡ Some s → r ≡ s
some_same r s e = cc

-- the first reply is one that the first transfer may get
pub first_fits : (d : Dialogue) (rs : List Reply) (r : Reply) → AreReplies d 0 rs → slice_get rs 0 ≡ Some r → Fits (d.at 0) r
first_fits d [] r are is = absurd cc
first_fits d (x ∷ xs) r are is = subst (Fits (d.at 0)) (some_same x r is) are.0

-- after whatever reply, the second call of a chain receives
received_by : (c : Chain) (sent r : Reply) → Fits ((chains c).at (next_place (chains c) 0 sent)) r → Fits (messages_of_call (chained c 1)) r
received_by c reply.Done r fits = fits
received_by c (reply.Read bytes) r fits = fits
received_by c (reply.Err e) r fits = fits

pub received_fits : (c : Chain) (rs : List Reply) (r : Reply) → AreReplies (chains c) 0 rs → slice_get rs 1 ≡ Some r
    → Fits (messages_of_call (chained c 1)) r
received_fits c [] r are is = absurd cc
received_fits c (x ∷ []) r are is = absurd cc
received_fits c (x ∷ y ∷ ys) r are is = subst (Fits (messages_of_call (chained c 1))) (some_same y r is) (received_by c x y are.1.0)

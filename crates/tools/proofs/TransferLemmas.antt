-- The transfer of an SMBus call is within the limits, and no reply to a transfer brings more than it stands for.
use Rattle.tools.proofs.Cited.{◌≡◌, ℕ, zero, suc, ◌+◌, ◌*◌, ◌/◌, ◌%◌, ◌^◌, ◌<◌, ◌≤◌, Bool, true, false, cond, List, [], ◌∷◌, ◌++◌, length}
use Rattle.tools.proofs.Cited.{take, get_or, Option, Some, None, refl, subst, arith, add-one, All, IfSome, take-length, length-append}
use Rattle.tools.proofs.Cited.{sum_by-cons, All-nil, All-cons, All-append, IsByte, AreBytes, Fits, TransferView, IsMessage, size_of}
use Rattle.tools.proofs.Cited.{written_of, Reply, low_byte_first, messages_of_call, call_row, is_coded, write_messages, read_messages}
use Rattle.tools.proofs.Cited.{bytes_sent, IsBlockLength, SmbCall}
use Rattle.std.proofs.lemmas.List.Elements.{All-get_or}
use Rattle.i2c_base.specs.Transfer.{IsTransfer, written, plain_read, counted_read}
use Rattle.i2c_base.specs.declared.reply.Reply.TheVariants as reply
use Rattle.i2c_base.specs.declared.transfer.Msg.{Msg}
use Rattle.i2c_spec.specs.declared.smbus_row.ReadShape.{ReadShape}
use Rattle.i2c_spec.specs.declared.smbus_row.ReadShape.TheVariants as read
use Rattle.smb_emul.specs.Calls.{code_sent, IsShortRead}
use Rattle.smb_pec.specs.LongDivision.{pec}
use Rattle.smb_pec.proofs.TableLemmas.{code_is_byte, code_more}
use Rattle.tools.specs.Replies.{most_brought}
use Rattle.i2c_base.specs.Need.{bytes_given}
use Rattle.i2c_base.proofs.FittingLemmas.{reads-size}

-- ---- what a reply brings

pub brings_few : (t : TransferView) (r : Reply) → IsTransfer t.msgs t.out → Fits t r → length (bytes_given r) ≤ most_brought t
brings_few t reply.Done keeps fits = omega arith
brings_few t (reply.Read bytes) keeps fits = reads-size t.msgs bytes keeps.each fits.1
brings_few t (reply.Err errno) keeps fits = omega arith

-- ---- what a call asks for

-- an error code is a byte. The induction goes over how many bytes it is of
code_so_far : (bytes : List ℕ) (n : ℕ) → AreBytes bytes → n ≤ length bytes → pec (take n bytes) < 256
code_so_far bytes zero each within = let none : pec [] ≡ 0 = refl in omega (arith, none)
code_so_far bytes (suc n) each within =
    let byte : IsByte (get_or bytes n 0) = All-get_or IsByte bytes n 0 (omega (arith, within)) each in
    let code : pec (take n bytes) < 256 = code_so_far bytes n each (omega (arith, within)) in
    let more : pec (take (n + 1) bytes) < 256 = subst (λ c. c < 256)
    (code_more bytes n (pec (take n bytes)) (omega (arith, within)) byte refl)
    (code_is_byte (pec (take n bytes)) (get_or bytes n 0) code byte) in
    rw (← add-one n) more

code_byte : (bytes : List ℕ) → AreBytes bytes → pec bytes < 256
code_byte bytes each = rw (take-length bytes) at (code_so_far bytes (length bytes) each (omega arith))

one_byte : (b : ℕ) → b < 256 → AreBytes (b ∷ [])
one_byte b small = All-cons IsByte b [] small (All-nil IsByte)

-- bytes that a call may write: a command byte, a count, and a block
pub record IsShortWrite (bytes : List ℕ) : Type 0 where
  pub each : AreBytes bytes
  pub few : length bytes ≤ 257

-- with its error code there is one more
record IsSent (out : List ℕ) : Type 0 where
  each : AreBytes out
  few : length out ≤ 258

without_code : (bytes : List ℕ) → IsShortWrite bytes → IsSent (bytes ++ [])
without_code bytes short = record {
  each = All-append IsByte bytes [] short.each (All-nil IsByte);
  few = omega (arith, short.few, length-append bytes []);
}

is_sent : (addr : ℕ) (coded : Bool) (r : ReadShape) (bytes : List ℕ) → (coded ≡ true → addr ≤ 119) → IsShortWrite bytes
    → IsSent (bytes ++ code_sent addr coded r bytes)
is_sent addr true read.Nothing bytes near short =
    let code : ℕ = pec (2 * addr ∷ bytes) in
    let byte : code < 256 = code_byte (2 * addr ∷ bytes) (All-cons IsByte (2 * addr) bytes (omega (arith, near refl)) short.each) in
    record {
      each = All-append IsByte bytes (code ∷ []) short.each (one_byte code byte);
      few = omega (arith, short.few, length-append bytes (code ∷ []));
    }
is_sent addr false read.Nothing bytes near short = without_code bytes short
is_sent addr coded (read.Plain n) bytes near short = without_code bytes short
is_sent addr coded read.Counted bytes near short = without_code bytes short

one_message : (m : Msg) → IsMessage m → All IsMessage (m ∷ [])
one_message m is = All-cons IsMessage m [] is (All-nil IsMessage)

is_written : (addr n : ℕ) → n ≤ 258 → IsMessage (written addr n)
is_written addr n few = (omega (arith, few), λ e. cc, λ e. cc)

written_fits : (addr : ℕ) (out : List ℕ) → IsSent out → IsTransfer (written addr (length out) ∷ []) out
written_fits addr out sent =
    record {
      count = omega arith;
      each = one_message (written addr (length out)) (is_written addr (length out) sent.few);
      size = omega (arith, sent.few);
      written = omega arith;
      bytes = sent.each;
    }

-- a message that a call reads by
record IsRead (m : Msg) : Type 0 where
  message : IsMessage m
  size : size_of m ≤ 258
  writes : written_of m ≡ 0

plain_is_read : (addr : ℕ) (coded : Bool) (n : ℕ) → IsBlockLength 32 n → IsRead (plain_read addr (cond coded (n + 1) n))
plain_is_read addr true n short = record {
  message = (omega (arith, short.1), λ e. cc, λ e. omega arith);
  size = omega (arith, short.1);
  writes = refl;
}
plain_is_read addr false n short = record {
  message = (omega (arith, short.1), λ e. cc, λ e. omega (arith, short.0));
  size = omega (arith, short.1);
  writes = refl;
}

counted_is_read : (addr : ℕ) (extra : Bool) → IsRead (counted_read addr extra)
counted_is_read addr true = record {
  message = (omega arith, λ e. (refl, omega arith, omega arith), λ e. omega arith);
  size = omega arith;
  writes = refl;
}
counted_is_read addr false = record {
  message = (omega arith, λ e. (refl, omega arith, omega arith), λ e. omega arith);
  size = omega arith;
  writes = refl;
}

read_fits : (m : Msg) → IsRead m → IsTransfer (m ∷ []) []
read_fits m is =
    record {
      count = omega arith;
      each = one_message m is.message;
      size = omega (arith, is.size, sum_by-cons size_of m []);
      written = omega (arith, is.writes, sum_by-cons written_of m []);
      bytes = All-nil IsByte;
    }

both_fit : (addr : ℕ) (out : List ℕ) (m : Msg) → IsSent out → IsRead m → IsTransfer (written addr (length out) ∷ m ∷ []) out
both_fit addr out m sent is =
    record {
      count = omega arith;
      each = All-cons IsMessage (written addr (length out)) (m ∷ []) (is_written addr (length out) sent.few) (one_message m is.message);
      size = omega (arith, sent.few, is.size, sum_by-cons size_of (written addr (length out)) (m ∷ []), sum_by-cons size_of m []);
      written = omega (arith, is.writes, sum_by-cons written_of (written addr (length out)) (m ∷ []), sum_by-cons written_of m []);
      bytes = sent.each;
    }

row_fits : (addr : ℕ) (coded : Bool) (r : ReadShape) (write : Option (List ℕ)) → (coded ≡ true → addr ≤ 119) → IfSome write IsShortWrite
    → IsShortRead r
    → IsTransfer (write_messages addr coded r write ++ read_messages addr coded r) (bytes_sent addr coded r write)
row_fits addr coded read.Nothing None near short reads = record {
  count = omega arith;
  each = All-nil IsMessage;
  size = omega arith;
  written = refl;
  bytes = All-nil IsByte;
}
row_fits addr coded read.Nothing (Some bytes) near short reads = written_fits addr (bytes ++ code_sent addr coded read.Nothing bytes)
    (is_sent addr coded read.Nothing bytes near short)
row_fits addr coded (read.Plain n) None near short reads = read_fits (plain_read addr (cond coded (n + 1) n))
    (plain_is_read addr coded n reads)
row_fits addr coded (read.Plain n) (Some bytes) near short reads =
    both_fit addr (bytes ++ []) (plain_read addr (cond coded (n + 1) n)) (without_code bytes short) (plain_is_read addr coded n reads)
row_fits addr coded read.Counted None near short reads = read_fits (counted_read addr coded) (counted_is_read addr coded)
row_fits addr coded read.Counted (Some bytes) near short reads = both_fit addr (bytes ++ []) (counted_read addr coded)
    (without_code bytes short) (counted_is_read addr coded)

-- a transfer within the limits, which has messages
pub record IsAsk (t : TransferView) : Type 0 where
  pub fits : IsTransfer t.msgs t.out
  pub sends : 0 < length t.msgs

-- so is that of any call with short writes and reads; an address goes into an error code alone
pub call_asks : (call : SmbCall) → (is_coded call ≡ true → call.addr ≤ 119) → IfSome (call_row call.op).write IsShortWrite
    → IsShortRead (call_row call.op).read
    → 0 < length (messages_of_call call).msgs → IsAsk (messages_of_call call)
call_asks call near short reads some =
    record { fits = row_fits call.addr (is_coded call) (call_row call.op).read (call_row call.op).write near short reads; sends = some }

-- a command byte and few others
pub short_bytes : (b : ℕ) (bytes : List ℕ) → b < 256 → AreBytes bytes → length bytes ≤ 256 → IsShortWrite (b ∷ bytes)
short_bytes b bytes small each few = record { each = All-cons IsByte b bytes small each; few = omega (arith, few) }

-- the two bytes of a word
pub word_bytes : (v : ℕ) → v < 2 ^ 16 → AreBytes (low_byte_first v)
word_bytes v small = All-cons IsByte (v % 256) (v / 256 ∷ []) (omega arith) (one_byte (v / 256) (omega (arith, small)))

pub short_byte : (b : ℕ) → b < 256 → IsShortWrite (b ∷ [])
short_byte b small = record { each = one_byte b small; few = omega arith }

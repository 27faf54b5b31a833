-- The messages of a plain transfer are within its limits, and what they print is lines of a section. The inductions go over the messages.
use Rattle.tools.proofs.Cited.{◌≡◌, ℕ, ◌≤◌, List, [], ◌∷◌, length, take, drop, map, codes, Ok, Err, refl, arith, All, flat_map, sum_by}
use Rattle.tools.proofs.Cited.{length-append, length-map, All-nil, All-cons, All-append, All-head, All-tail, sum_by-cons, IsSectionLine}
use Rattle.tools.proofs.Cited.{errno_text, IsByte, AreBytes, IsMessage, size_of, written_of, Reply, IsCombinedInRange, IsDescInRange}
use Rattle.tools.proofs.Cited.{IsOpInRange, bytes_of, length_of, desc_message, count_read_by, own_lines, byte_words, Combined, Desc}
use Rattle.i2c_base.specs.declared.reply.Reply.TheVariants as reply
use Rattle.smb_emul.specs.declared.call.SmbFail.TheVariants as fail
use Rattle.smb_emul.specs.Value as value
use Rattle.tools.specs.Transfers.{message_to, bytes_to_write, sent_by, transfer_of, count_read, own_line, reply_lines}
use Rattle.tools.specs.declared.lists.DescOp.{DescOp}
use Rattle.tools.specs.declared.lists.DescOp.TheVariants as op
use Rattle.tools.proofs.TransferLemmas.{IsAsk}
use Rattle.tools.proofs.ValueLemmas.{result_line}

-- ---- they are within the limits

-- of a message: it is one, what it stands for, what it writes, and what it reads
is_message : (addr : ℕ) (o : DescOp) → IsOpInRange o → IsMessage (message_to addr o)
is_message addr (op.Read n) is = (is.1, λ e. cc, λ e. omega (arith, is.0))
is_message addr (op.Write bytes) is = (is.1, λ e. cc, λ e. cc)

size_same : (addr : ℕ) (o : DescOp) → size_of (message_to addr o) ≡ length_of o
size_same addr (op.Read n) = refl
size_same addr (op.Write bytes) = refl

written_same : (addr : ℕ) (o : DescOp) → written_of (message_to addr o) ≡ length (bytes_to_write o)
written_same addr (op.Read n) = refl
written_same addr (op.Write bytes) = refl

bytes_fit : (o : DescOp) → IsOpInRange o → AreBytes (bytes_to_write o)
bytes_fit (op.Read n) is = All-nil IsByte
bytes_fit (op.Write bytes) is = is.0

read_within : (o : DescOp) → count_read o ≤ length_of o
read_within (op.Read n) = omega arith
read_within (op.Write bytes) = omega arith

-- of all
are_messages : (ds : List Desc) → All IsDescInRange ds → All IsMessage (map desc_message ds)
are_messages [] each = All-nil IsMessage
are_messages (d ∷ ds) each =
    All-cons IsMessage (desc_message d) (map desc_message ds) (is_message d.addr d.op (All-head IsDescInRange d ds each).1)
    (are_messages ds (All-tail IsDescInRange d ds each))

sizes_same : (ds : List Desc) → sum_by size_of (map desc_message ds) ≡ sum_by bytes_of ds
sizes_same [] = refl
sizes_same (d ∷ ds) =
    omega (
      arith,
      sum_by-cons size_of (desc_message d) (map desc_message ds),
      sum_by-cons bytes_of d ds,
      size_same d.addr d.op,
      sizes_same ds,
    )

all_written : (ds : List Desc) → length (flat_map sent_by ds) ≡ sum_by written_of (map desc_message ds)
all_written [] = refl
all_written (d ∷ ds) =
    omega (
      arith,
      length-append (sent_by d) (flat_map sent_by ds),
      sum_by-cons written_of (desc_message d) (map desc_message ds),
      written_same d.addr d.op,
      all_written ds,
    )

all_bytes : (ds : List Desc) → All IsDescInRange ds → AreBytes (flat_map sent_by ds)
all_bytes [] each = All-nil IsByte
all_bytes (d ∷ ds) each =
    All-append IsByte (sent_by d) (flat_map sent_by ds) (bytes_fit d.op (All-head IsDescInRange d ds each).1)
    (all_bytes ds (All-tail IsDescInRange d ds each))

pub messages_ask : (c : Combined) → IsCombinedInRange c → IsAsk (transfer_of c)
messages_ask c range =
    let many : length (map desc_message c.messages) ≡ length c.messages = length-map c.messages desc_message in
    record {
      fits = record {
        count = omega (arith, many, range.messages.few);
        each = are_messages c.messages range.messages.each;
        size = omega (arith, sizes_same c.messages, range.messages.short);
        written = all_written c.messages;
        bytes = all_bytes c.messages range.messages.each;
      };
      sends = omega (arith, many, range.messages.some);
    }

-- they read no more than they stand for
all_within : (ds : List Desc) → sum_by count_read_by ds ≤ sum_by bytes_of ds
all_within [] = omega arith
all_within (d ∷ ds) = omega (arith, sum_by-cons count_read_by d ds, sum_by-cons bytes_of d ds, read_within d.op, all_within ds)

pub few_read : (c : Combined) → IsCombinedInRange c → sum_by count_read_by c.messages ≤ 4096
few_read c range = omega (arith, all_within c.messages, range.messages.short)

-- ---- they print lines

own_is_line : (o : DescOp) (bytes : List ℕ) → All IsSectionLine (own_line o bytes)
own_is_line (op.Read n) bytes =
    All-cons IsSectionLine (byte_words (take n bytes)) [] (result_line (Ok (value.block (take n bytes)))) (All-nil IsSectionLine)
own_is_line (op.Write sent) bytes = All-nil IsSectionLine

own_are_lines : (ds : List Desc) (bytes : List ℕ) → All IsSectionLine (own_lines ds bytes)
own_are_lines [] bytes = All-nil IsSectionLine
own_are_lines (d ∷ ds) bytes =
    All-append IsSectionLine (own_line d.op bytes) (own_lines ds (drop (count_read d.op) bytes)) (own_is_line d.op bytes)
    (own_are_lines ds (drop (count_read d.op) bytes))

pub reply_line : (ds : List Desc) (r : Reply) → All IsSectionLine (reply_lines ds r)
reply_line ds reply.Done = All-cons IsSectionLine (codes "ok") [] (result_line (Ok value.done)) (All-nil IsSectionLine)
reply_line ds (reply.Read bytes) = own_are_lines ds bytes
reply_line ds (reply.Err e) = All-cons IsSectionLine (errno_text e) [] (result_line (Err (fail.Errno e))) (All-nil IsSectionLine)

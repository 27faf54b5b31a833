-- A command that makes one plain transfer: its messages, with a repeated start between each two (UM10204 section 3.1.10).
use Rattle.std.specs.Prelude.{ℕ, ◌+◌, ◌*◌, List, [], ◌∷◌, ◌++◌, length, take, drop, map, slice_index_or, codes}
use Rattle.std.specs.List.{flat_map, sum_by}
use Rattle.bus_spec.specs.Lines.{errno_text}
use Rattle.i2c_base.specs.Transfer.{TransferView, written, plain_read}
use Rattle.i2c_base.specs.declared.reply.Reply.{Reply}
use Rattle.i2c_base.specs.declared.reply.Reply.TheVariants as reply
use Rattle.i2c_base.specs.declared.transfer.TransferKind.TheVariants.{Plain}
use Rattle.i2c_base.specs.declared.transfer.Msg.{Msg}
use Rattle.tools.specs.Dialogues.{Dialogue}
use Rattle.tools.specs.Values.{byte_words}
use Rattle.tools.specs.declared.command.transfer.Combined.{Combined}
use Rattle.tools.specs.declared.lists.Desc.{Desc}
use Rattle.tools.specs.declared.lists.DescOp.{DescOp}
use Rattle.tools.specs.declared.lists.DescOp.TheVariants as op

-- ---- its transfer

-- the message to an address that reads so many bytes, or writes these
abbrev pub message_to : ℕ → DescOp → Msg
message_to addr (op.Read n) = plain_read addr n
message_to addr (op.Write bytes) = written addr (length bytes)

abbrev pub desc_message : Desc → Msg
desc_message d = message_to d.addr d.op

-- the bytes that a message writes
abbrev pub bytes_to_write : DescOp → List ℕ
bytes_to_write (op.Read n) = []
bytes_to_write (op.Write bytes) = bytes

abbrev pub sent_by : Desc → List ℕ
sent_by d = bytes_to_write d.op

-- a transfer with more messages at its end, and with all bytes that they write, one after the other
abbrev pub with_messages : TransferView → List Desc → TransferView
with_messages t ds = record t { msgs = t.msgs ++ map desc_message ds; out = t.out ++ flat_map sent_by ds }

-- the messages of a command as one transfer
abbrev pub transfer_of : Combined → TransferView
transfer_of c = with_messages (record { bus = c.bus; kind = Plain; force = c.force; msgs = []; out = [] }) c.messages

-- ---- its lines

-- how many bytes a message reads
abbrev pub count_read : DescOp → ℕ
count_read (op.Read n) = n
count_read (op.Write bytes) = 0

abbrev pub count_read_by : Desc → ℕ
count_read_by d = count_read d.op

-- the line of a message that reads: its own bytes, which are the first of these
abbrev pub own_line : DescOp → List ℕ → List (List ℕ)
own_line (op.Read n) bytes = byte_words (take n bytes) ∷ []
own_line (op.Write sent) bytes = []

-- the lines of messages, where the bytes of each stand behind those of the messages before it
abbrev pub own_lines : List Desc → List ℕ → List (List ℕ)
own_lines [] bytes = []
own_lines (d ∷ ds) bytes = own_line d.op bytes ++ own_lines ds (drop (count_read d.op) bytes)

-- what is printed of a reply: the lines of what was read, that it is done where nothing reads, or the name of its error
abbrev pub reply_lines : List Desc → Reply → List (List ℕ)
reply_lines ds reply.Done = codes "ok" ∷ []
reply_lines ds (reply.Read bytes) = own_lines ds bytes
reply_lines ds (reply.Err errno) = errno_text errno ∷ []

-- what it says to the bus. The name of an error has at most 26 bytes, and a byte is printed as 5 with what stands behind it
abbrev pub transfers : Combined → Dialogue
transfers c =
    record {
      places = 1;
      at = λ k. transfer_of c;
      skips = λ k r. 0;
      lines = λ rs. reply_lines c.messages (slice_index_or rs 0 reply.Done);
      most = 27 + 5 * sum_by count_read_by c.messages;
    }

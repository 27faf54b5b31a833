-- A command that probes the addresses of a bus, one after the other (i2c-tools, i2cdetect(8)).
use Rattle.std.specs.Prelude.{ℕ, ◌+◌, ◌-◌, ◌*◌, ◌==◌, min, max, nat_le, Bool, false, ◌&&◌, ◌||◌, List, [], ◌∷◌, ◌++◌, slice_get, Option, Some, None, codes, if◌then◌else◌}
use Rattle.std.specs.List.{list_any}
use Rattle.bus_spec.specs.Lines.{errno_text, two_digits}
use Rattle.i2c_base.specs.Errno.{number_of}
use Rattle.i2c_base.specs.Limits.{FIRST_ADDRESS, LAST_ADDRESS}
use Rattle.i2c_base.specs.declared.errno.Errno.{Errno}
use Rattle.i2c_base.specs.declared.errno.Errno.TheVariants as errno
use Rattle.i2c_base.specs.declared.reply.Reply.{Reply}
use Rattle.i2c_base.specs.declared.reply.Reply.TheVariants as reply
use Rattle.smb_emul.specs.Calls.{messages_of_call}
use Rattle.smb_emul.specs.declared.call.SmbCall.{SmbCall}
use Rattle.smb_emul.specs.declared.call.SmbOp.{SmbOp}
use Rattle.smb_emul.specs.declared.call.SmbOp.TheVariants as op
use Rattle.tools.specs.Dialogues.{Dialogue}
use Rattle.tools.specs.Tables.{trimmed, parts, heading, in_row, row_front}
use Rattle.tools.specs.declared.command.detect.Detect.{Detect}
use Rattle.tools.specs.declared.command.detect.Probe.{Probe}
use Rattle.tools.specs.declared.command.detect.Probe.TheVariants as probe

-- ---- its probes

-- of its range, it probes the addresses that a target may have
abbrev pub first_probed : Detect → ℕ
first_probed d = max d.first FIRST_ADDRESS

abbrev pub last_probed : Detect → ℕ
last_probed d = min d.last LAST_ADDRESS

abbrev pub probes : Detect → ℕ
probes d = last_probed d + 1 - first_probed d

abbrev pub is_probed : Detect → ℕ → Bool
is_probed d addr = nat_le (first_probed d) addr && nat_le addr (last_probed d)

-- from 0x30 to 0x37 and from 0x50 to 0x5f a byte is received: EEPROMs stand there, and a quick write may change one
abbrev pub is_received : ℕ → Bool
is_received addr = (nat_le 48 addr && nat_le addr 55) || (nat_le 80 addr && nat_le addr 95)

abbrev pub probe_op : Probe → ℕ → SmbOp
probe_op probe.ByAddress addr = if is_received addr then op.ReceiveByte else op.Quick
probe_op probe.Quick addr = op.Quick
probe_op probe.Receive addr = op.ReceiveByte

abbrev pub probe_call : Detect → ℕ → SmbCall
probe_call d addr = record { bus = d.bus; addr = addr; force = false; pec = false; op = probe_op d.probe addr }

-- the bus isn't there
abbrev pub is_no_bus : Reply → Bool
is_no_bus reply.Done = false
is_no_bus (reply.Read bytes) = false
is_no_bus (reply.Err e) = number_of e == 19

-- ---- its table

-- the cell of a reply: the address where someone answers, `UU` where a driver has it, and else `--`
abbrev pub error_cell : Errno → List ℕ
error_cell e = if number_of e == 16 then codes " UU" else codes " --"

abbrev pub answer_cell : ℕ → Option Reply → List ℕ
answer_cell addr None = codes " --"
answer_cell addr (Some reply.Done) = 32 ∷ two_digits addr
answer_cell addr (Some (reply.Read bytes)) = 32 ∷ two_digits addr
answer_cell addr (Some (reply.Err e)) = error_cell e

-- an address that isn't probed is left blank
abbrev pub scan_cell : Detect → List Reply → ℕ → List ℕ
scan_cell d rs addr = if is_probed d addr then answer_cell addr (slice_get rs (addr - first_probed d)) else codes "   "

abbrev pub scan_row : Detect → List Reply → ℕ → List ℕ
scan_row d rs row = trimmed (row_front row ++ parts (in_row (scan_cell d rs) row) 16)

abbrev pub scan_line : Detect → List Reply → ℕ → List (List ℕ)
scan_line d rs r = scan_row d rs (16 * r) ∷ []

abbrev pub scan_table : Detect → List Reply → List (List ℕ)
scan_table d rs = heading ∷ parts (scan_line d rs) 8

-- a bus that isn't there is told alone
abbrev pub scan_lines : Detect → List Reply → List (List ℕ)
scan_lines d rs = if list_any is_no_bus rs then errno_text errno.Enodev ∷ [] else scan_table d rs

-- what it says to the bus; a row has at most 52 bytes before it is trimmed
abbrev pub scans : Detect → Dialogue
scans d =
    record {
      places = probes d;
      at = λ k. messages_of_call (probe_call d (first_probed d + k));
      skips = λ k r. if is_no_bus r then probes d else 0;
      lines = scan_lines d;
      most = 9 * 52;
    }

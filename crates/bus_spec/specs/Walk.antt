-- A walk as a tree: what a caller does next, and what follows each outcome. (Linux i2c-topology: a transfer takes
-- the locks, selects, sends its messages, deselects, and frees the locks.)
use Rattle.std.specs.Prelude.{ℕ, zero, suc, ◌-◌, ◌==◌, Bool, true, false, List, [], ◌∷◌, length, Option, Some, None, unwrap_or, if◌then◌else◌}
use Rattle.i2c_base.specs.declared.board.MuxKind.{MuxKind}
use Rattle.i2c_base.specs.declared.ids.LockId.{LockId}
use Rattle.i2c_base.specs.declared.errno.Errno.{Errno}
use Rattle.i2c_base.specs.declared.errno.Errno.TheVariants as errno
use Rattle.i2c_base.specs.declared.entry.End.{End}
use Rattle.i2c_base.specs.declared.entry.End.TheVariants as end
use Rattle.i2c_base.specs.declared.entry.Purpose.{Purpose}
use Rattle.i2c_base.specs.declared.entry.Purpose.TheVariants as purpose
use Rattle.i2c_base.specs.Board.{BoardView}
use Rattle.i2c_base.specs.Limits.{POLLS}
use Rattle.i2c_base.specs.Muxes.{facts_of}
use Rattle.i2c_spec.specs.Tree.{Hop, addr_of_mux}
use Rattle.i2c_spec.specs.Chips.{select_value, close_value}
use Rattle.i2c_spec.specs.Messages.{MessageView, write_byte, read_byte}
use Rattle.i2c_spec.specs.Flat.{errno_of}

-- mux `mux` on bus `on` may have been left open
pub record Mark : Type 0 where
  pub on : ℕ
  pub mux : ℕ

-- a mux is switched off: its channel is deselected, after a job on it; or it is closed, because a mark says that it may
-- be open
pub data Off : Type 0 where
  Deselect : (hop : Hop) → Off
  Close : (on : ℕ) → (mux : ℕ) → (kind : MuxKind) → Off

-- one thing to be done on a bus: the caller's messages; a channel is selected; a mux is switched off
pub data Job : Type 0 where
  Call : (bus : ℕ) → (messages : List MessageView) → Job
  Select : (hop : Hop) → Job
  SwitchOff : (off : Off) → Job

-- one step of a walk
pub data Act : Type 0 where
  Take : (lock : LockId) → Act
  Free : (lock : LockId) → Act
  -- one message of the job, of which so many more may follow
  Send : (job : Job) → (left : ℕ) → Act
  -- the line of the job's gpio mux
  Shift : (job : Job) → Act
  -- the reply is decided: why it is an error, or none
  Settle : (verdict : Option Errno) → Act

-- what came of a step
pub data ActOutcome : Type 0 where
  Passed : ActOutcome
  Sent : (end : End) → (bytes : List ℕ) → ActOutcome
  Lined : (failed : Bool) → ActOutcome

-- what came of a job: its own message was refused, or it was never sent because a select on its way was refused,
-- or a port call failed
pub data JobOutcome : Type 0 where
  Good : JobOutcome
  Refused : JobOutcome
  Unsent : JobOutcome
  Failed : JobOutcome

-- what a failure by the port marks, the job's own mux first; whether the job is on the way to the caller's messages
pub record Note : Type 0 where
  pub marks : List Mark
  pub forward : Bool

-- a question is no step: what the journal tells where the walk stands answers it
pub data Ask : Type 0 where
  MarkOf : (bus : ℕ) → Ask
  KeptOf : (bus : ℕ) → (mux : ℕ) → Ask

pub data WalkTree : Type 0 where
  Ends : WalkTree
  Look : (ask : Ask) → (next : Option ℕ → WalkTree) → WalkTree
  Then : (act : Act) → (note : Note) → (next : ActOutcome → WalkTree) → WalkTree

-- which mux is switched off, and the bus that it stands on: all that a deselect and a close differ in
abbrev pub off_bus : Off → ℕ
off_bus (Deselect h) = h.on
off_bus (Close on mux kind) = on

abbrev pub off_mux : Off → ℕ
off_mux (Deselect h) = h.mux
off_mux (Close on mux kind) = mux

abbrev pub off_kind : Off → MuxKind
off_kind (Deselect h) = h.kind
off_kind (Close on mux kind) = kind

-- which bus a job is done on, and why
abbrev pub job_bus : Job → ℕ
job_bus (Call bus messages) = bus
job_bus (Select h) = h.on
job_bus (SwitchOff off) = off_bus off

abbrev pub job_purpose : Job → Purpose
job_purpose (Call bus messages) = purpose.Call
job_purpose (Select h) = purpose.Control h.mux
job_purpose (SwitchOff off) = purpose.Control (off_mux off)

abbrev pub is_gpio : MuxKind → Bool
is_gpio k = (facts_of k).by_line

abbrev pub is_arbitrator : MuxKind → Bool
is_arbitrator k = (facts_of k).asks

-- a gpio mux is switched by a line
abbrev pub is_line : Job → Bool
is_line (Call bus messages) = false
is_line (Select h) = is_gpio h.kind
is_line (SwitchOff off) = is_gpio (off_kind off)

abbrev pub line_mux : Job → ℕ
line_mux (Call bus messages) = 0
line_mux (Select h) = h.mux
line_mux (SwitchOff off) = off_mux off

abbrev pub line_level : Job → ℕ
line_level (Call bus messages) = 0
line_level (Select h) = select_value h.kind h.channel
line_level (SwitchOff off) = close_value

-- how many messages may follow the first one of a job: an arbitrator is asked at most so often before it is switched
abbrev pub more_of : Job → ℕ
more_of (Call bus messages) = length messages - 1
more_of (Select h) = if is_arbitrator h.kind then POLLS else 0
more_of (SwitchOff off) = 0

-- the message that is sent where so many more may follow
abbrev pub nth_message : List MessageView → ℕ → MessageView
nth_message [] i = read_byte 0
nth_message (m ∷ ms) zero = m
nth_message (m ∷ ms) (suc i) = nth_message ms i

abbrev pub chip_address : BoardView → ℕ → ℕ
chip_address b m = unwrap_or (addr_of_mux b m) 0

abbrev pub select_message : BoardView → Hop → ℕ → MessageView
select_message b h zero = write_byte (chip_address b h.mux) (select_value h.kind h.channel)
select_message b h (suc left) = read_byte (chip_address b h.mux)

abbrev pub message_of : BoardView → Job → ℕ → MessageView
message_of b (Call bus messages) left = nth_message messages (length messages - 1 - left)
message_of b (Select h) left = select_message b h left
message_of b (SwitchOff off) left = write_byte (chip_address b (off_mux off)) close_value

-- which message of its transfer it is, from 1, and how many these are: each control message is a transfer of its own
abbrev pub part_of : Job → ℕ → ℕ
part_of (Call bus messages) left = length messages - left
part_of (Select h) left = 1
part_of (SwitchOff off) left = 1

abbrev pub parts_of : Job → ℕ
parts_of (Call bus messages) = length messages
parts_of (Select h) = 1
parts_of (SwitchOff off) = 1

-- it is the last of its transfer, so a stop follows it
abbrev pub is_last : Job → ℕ → Bool
is_last (Call bus messages) left = left == 0
is_last (Select h) left = true
is_last (SwitchOff off) left = true

-- how a job goes on after one of its messages: with the next one, with its last one, or not at all
pub data Go : Type 0 where
  On : Go
  Last : Go
  Over : Go

abbrev pub first_byte : List ℕ → ℕ
first_byte [] = 1
first_byte (x ∷ xs) = x

abbrev pub on_if_more : ℕ → Go
on_if_more zero = Over
on_if_more (suc n) = On

-- of the caller's messages each that went through is followed by the next. An arbitrator that is found free is
-- switched; one that is found taken is asked again while polls are left
abbrev pub goes : Job → ℕ → ActOutcome → Go
goes (Call bus messages) left (Sent end.Ok bytes) = On
goes (Call bus messages) left (Sent end.Nack bytes) = Over
goes (Call bus messages) left (Sent end.Slow bytes) = Over
goes (Call bus messages) left (Sent end.Refused bytes) = Over
goes (Call bus messages) left (Sent end.Proto bytes) = Over
goes (Call bus messages) left (Sent (end.Cut q) bytes) = Over
goes (Call bus messages) left (Lined failed) = Over
goes (Call bus messages) left Passed = Over
goes (Select h) left (Sent end.Ok bytes) = if first_byte bytes == 0 then Last else on_if_more left
goes (Select h) left (Sent end.Nack bytes) = Over
goes (Select h) left (Sent end.Slow bytes) = Over
goes (Select h) left (Sent end.Refused bytes) = Over
goes (Select h) left (Sent end.Proto bytes) = Over
goes (Select h) left (Sent (end.Cut q) bytes) = Over
goes (Select h) left (Lined failed) = Over
goes (Select h) left Passed = Over
goes (SwitchOff off) left out = Over

-- what came of a job whose last message or line step had this outcome: `ok` where the message went through. A poll
-- that was the last one, though it went through, found the arbitrator taken
abbrev pub sent_outcome : JobOutcome → End → JobOutcome
sent_outcome ok end.Ok = ok
sent_outcome ok end.Nack = Refused
sent_outcome ok end.Slow = Refused
sent_outcome ok end.Refused = Refused
sent_outcome ok end.Proto = Refused
sent_outcome ok (end.Cut q) = Failed

abbrev pub ok_outcome : ℕ → JobOutcome
ok_outcome zero = Good
ok_outcome (suc left) = Refused

abbrev pub good_outcome : Job → ℕ → JobOutcome
good_outcome (Call bus messages) left = Good
good_outcome (Select h) left = ok_outcome left
good_outcome (SwitchOff off) left = Good

abbrev pub job_outcome : Job → ℕ → ActOutcome → JobOutcome
job_outcome job left (Sent e bytes) = sent_outcome (good_outcome job left) e
job_outcome job left (Lined failed) = if failed then Failed else Good
job_outcome job left Passed = Good

-- the error that a message or line step decides
abbrev pub ok_errno : ℕ → Option Errno
ok_errno zero = None
ok_errno (suc left) = Some errno.Etimedout

abbrev pub good_errno : Job → ℕ → Option Errno
good_errno (Call bus messages) left = None
good_errno (Select h) left = ok_errno left
good_errno (SwitchOff off) left = None

abbrev pub sent_errno : Option Errno → End → Option Errno
sent_errno ok end.Ok = ok
sent_errno ok end.Nack = errno_of end.Nack
sent_errno ok end.Slow = errno_of end.Slow
sent_errno ok end.Refused = errno_of end.Refused
sent_errno ok end.Proto = errno_of end.Proto
sent_errno ok (end.Cut q) = errno_of (end.Cut q)

abbrev pub verdict_of : Job → ℕ → ActOutcome → Option Errno
verdict_of job left (Sent e bytes) = sent_errno (good_errno job left) e
verdict_of job left (Lined failed) = if failed then Some errno.Eremoteio else None
verdict_of job left Passed = None

-- does this end of a job decide the reply, where the job is on the way to the caller's messages: the end of these
-- messages always, a select that isn't good, a close that failed by the port
abbrev pub decides : Job → JobOutcome → Bool
decides (Call bus messages) o = true
decides (Select h) Good = false
decides (Select h) Refused = true
decides (Select h) Unsent = true
decides (Select h) Failed = true
decides (SwitchOff off) Good = false
decides (SwitchOff off) Refused = false
decides (SwitchOff off) Unsent = false
decides (SwitchOff off) Failed = true

-- the bus that a question is about
abbrev pub ask_bus : Ask → ℕ
ask_bus (MarkOf p) = p
ask_bus (KeptOf p m) = p

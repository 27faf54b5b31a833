-- What a stack of tasks stands for: a walk of the grammar. Each kind of task is one line.
use Rattle.std.specs.Prelude.{◌≡◌, ◌<◌, ℕ, zero, suc, ◌+◌, ◌==◌, Bool, true, false, List, [], ◌∷◌, length, drop, Option, Some, None, slice_index_or, if◌then◌else◌}
use Rattle.i2c_base.specs.declared.entry.End.{End}
use Rattle.i2c_base.specs.declared.entry.End.TheVariants as end
use Rattle.i2c_base.specs.declared.entry.Purpose.{Purpose}
use Rattle.i2c_base.specs.declared.entry.Purpose.TheVariants as purpose
use Rattle.i2c_base.specs.declared.ids.LockId.{LockId}
use Rattle.i2c_base.specs.declared.ids.LockId.TheVariants as lock
use Rattle.i2c_base.specs.Board.{BoardView}
use Rattle.i2c_base.specs.declared.board.MuxKind.TheVariants.{Gpio}
use Rattle.i2c_base.specs.Transfer.{TransferView}
use Rattle.i2c_spec.specs.Tree.{Hop, hops, root_of, locks_of}
use Rattle.i2c_spec.specs.Chips.{select_value, close_value}
use Rattle.i2c_spec.specs.Messages.{MessageView, messages_of}
use Rattle.bus_spec.specs.Walk.{Job, Call, Select, SwitchOff, Deselect, Close, Act, ActOutcome, JobOutcome, Note, WalkTree, KeptOf, Go, Ends, Look, Then, job_bus, job_purpose, part_of, parts_of, line_mux, line_level}
use Rattle.bus_spec.specs.Walk as walk
use Rattle.bus_spec.specs.Slots.{MuxSlot, Clean, Marked, Slots, mark_in, after_job}
use Rattle.bus_spec.specs.Grammar.{Doer, plain, over, locked, part, messages, with_mark, aside, if_sent, if_good, opened, crossed, inner, kind_of}
use Rattle.mux_plan.specs.declared.task.Work.{Work}
use Rattle.mux_plan.specs.declared.task.Work.TheVariants as work
use Rattle.mux_plan.specs.declared.task.WorkResult.{WorkResult}
use Rattle.mux_plan.specs.declared.task.WorkResult.TheVariants as came
use Rattle.mux_plan.specs.declared.work.Continuation.{Continuation}
use Rattle.mux_plan.specs.declared.work.Continuation.TheVariants as follow
use Rattle.mux_plan.specs.declared.task.Task.{Task}
use Rattle.mux_plan.specs.declared.task.Task.TheVariants.{Enter, Lock, Free, Rest, Line, Settle, AwaitClose, Pass, AwaitSelect, AwaitWork, AwaitDeselect}
use Rattle.mux_plan.specs.declared.task.Outcome.{Outcome}
use Rattle.mux_plan.specs.declared.task.Outcome.TheVariants as outcome
use Rattle.mux_plan.specs.declared.task.NextMsg.{NextMsg}
use Rattle.mux_plan.specs.declared.task.Action.{Action}
use Rattle.mux_plan.specs.declared.task.Action.TheVariants as action

-- what a walk knows of its transfer: the board, the root, the muxes over its bus, nearest first, and its messages
pub record RouteView : Type 0 where
  pub board : BoardView
  pub root : ℕ
  pub path : List Hop
  pub bus : ℕ
  pub messages : List MessageView

-- .. where it leads to the transfer's bus
abbrev pub route_of : BoardView → TransferView → RouteView
route_of b t = record { board = b; root = root_of b t.bus; path = hops b t.bus; bus = t.bus; messages = messages_of t }

-- a walk: its tasks, the one on the top first, before the looks in front of the next step and with these answered; and what
-- came of the last job
pub record WalkView : Type 0 where
  pub route : RouteView
  pub tasks : List Task
  pub looked : List Task
  pub came : JobOutcome

-- the mux of this number on the path; one that isn't there is any
abbrev pub no_hop : Hop
no_hop = record { bus = 0; mux = 0; channel = 0; on = 0; parent = false; kind = Gpio; stays = false }

abbrev pub hop_at : RouteView → ℕ → Hop
hop_at c k = slice_index_or c.path k no_hop

abbrev pub job_of : RouteView → Work → Job
job_of c work.Call = Call c.bus c.messages
job_of c (work.Select k) = Select (hop_at c k)
job_of c (work.Deselect k) = SwitchOff (Deselect (hop_at c k))
job_of c (work.Close on mux kind) = SwitchOff (Close on mux kind)

abbrev pub came_of : WorkResult → JobOutcome
came_of came.Good = walk.Good
came_of came.Refused = walk.Refused
came_of came.Unsent = walk.Unsent
came_of came.Failed = walk.Failed

abbrev pub outcome_of : Outcome → ActOutcome
outcome_of outcome.Passed = walk.Passed
outcome_of (outcome.Sent e bytes) = walk.Sent e bytes.now
outcome_of (outcome.Lined failed) = walk.Lined failed

abbrev pub go_of : Continuation → Go
go_of follow.On = walk.On
go_of follow.Last = walk.Last
go_of follow.Over = walk.Over

-- what a failure of the task above marks: each select and close that waits marks its own mux, a deselect starts anew
abbrev pub note_of : RouteView → List Task → Note
note_of c [] = plain
note_of c (Enter n w ∷ ts) = note_of c ts
note_of c (Lock m n w ∷ ts) = note_of c ts
note_of c (Free l ∷ ts) = note_of c ts
note_of c (Rest left w ∷ ts) = note_of c ts
note_of c (Line w ∷ ts) = note_of c ts
note_of c (Settle v ∷ ts) = note_of c ts
note_of c (AwaitClose k m w ∷ ts) = with_mark (hop_at c k).on m (note_of c ts)
note_of c (Pass k w ∷ ts) = note_of c ts
note_of c (AwaitSelect k w ∷ ts) = with_mark (hop_at c k).on (hop_at c k).mux (note_of c ts)
note_of c (AwaitWork k ∷ ts) = note_of c ts
note_of c (AwaitDeselect k was ∷ ts) = aside (hop_at c k)

-- what does a job on the bus that mux k of the path stands on
abbrev pub on_bus : RouteView → ℕ → Doer
on_bus c k = part (hop_at c k).parent (locks_of c.root (drop (k + 1) c.path)) (inner c.board c.root (drop (k + 1) c.path))

-- the walk that these tasks stand for, where this came of the last job
abbrev pub tree_of : RouteView → List Task → JobOutcome → WalkTree
tree_of c [] out = Ends
tree_of c (Enter n w ∷ ts) out = inner c.board c.root (drop n c.path) (job_of c w) (note_of c ts) (tree_of c ts)
tree_of c (Lock m n w ∷ ts) out =
    locked (locks_of c.root (drop m c.path)) (inner c.board c.root (drop n c.path)) (job_of c w) (note_of c ts) (tree_of c ts)
tree_of c (Free l ∷ ts) out = Then (walk.Free l) plain (λ o. tree_of c ts out)
tree_of c (Rest left w ∷ ts) out = messages left (job_of c w) (note_of c ts) (tree_of c ts)
tree_of c (Line w ∷ ts) out = Then (walk.Shift (job_of c w)) (note_of c ts)
    (over (job_of c w) zero (note_of c ts) (tree_of c ts))
tree_of c (Settle v ∷ ts) out = Then (walk.Settle v) plain (λ o. tree_of c ts out)
tree_of c (AwaitClose k m w ∷ ts) out =
    if_sent out (Look (KeptOf (hop_at c k).on (hop_at c k).mux)
    (crossed (hop_at c k) (on_bus c k) (job_of c w) (note_of c ts) (tree_of c ts))) (tree_of c ts)
tree_of c (Pass k w ∷ ts) out = Look (KeptOf (hop_at c k).on (hop_at c k).mux)
    (crossed (hop_at c k) (on_bus c k) (job_of c w) (note_of c ts) (tree_of c ts))
tree_of c (AwaitSelect k w ∷ ts) out =
    if_good out (opened (hop_at c k) (on_bus c k) (job_of c w) (note_of c ts) (tree_of c ts)) (tree_of c ts)
tree_of c (AwaitWork k ∷ ts) out = on_bus c k (SwitchOff (Deselect (hop_at c k))) (aside (hop_at c k)) (λ o. tree_of c ts out)
tree_of c (AwaitDeselect k was ∷ ts) out = tree_of c ts (came_of was)

-- the job on the bus at place n: the locks of a mux-locked mux come first
abbrev pub part_task : Bool → ℕ → Work → Task
part_task true n w = Enter n w
part_task false n w = Lock n n w

-- the job that comes first at mux k of the path: the channel is selected, but where the mux keeps it open
abbrev pub choice_of : RouteView → ℕ → Bool → Work → Work
choice_of c k true w = w
choice_of c k false w = work.Select k

-- .. and a marked one is closed before
abbrev pub switch_of : RouteView → ℕ → Option ℕ → Bool → Work → Work
switch_of c k None kept w = choice_of c k kept w
switch_of c k (Some m) kept w = work.Close (hop_at c k).on m (kind_of c.board m)

-- what waits for that job, above these tasks: nothing where no select is made
abbrev pub select_tasks : Bool → ℕ → Work → List Task → List Task
select_tasks true k w ts = ts
select_tasks false k w ts = AwaitSelect k w ∷ ts

abbrev pub wait_tasks : Option ℕ → Bool → ℕ → Work → List Task → List Task
wait_tasks None kept k w ts = select_tasks kept k w ts
wait_tasks (Some m) kept k w ts = AwaitClose k m w ∷ ts

-- the stack behind a mux that was crossed; the job of a parent-locked one is still to come
abbrev pub crossed_tasks : Bool → Option ℕ → Bool → ℕ → Work → Work → List Task → List Task
crossed_tasks parent mark kept k w next ts =
    if parent then wait_tasks mark kept k w ts else Lock (k + 1) (k + 1) next ∷ wait_tasks mark kept k w ts

-- what waits for the work behind a mux: a mux that stays as it is is not deselected
abbrev pub work_tasks : Bool → ℕ → List Task → List Task
work_tasks true k ts = ts
work_tasks false k ts = AwaitWork k ∷ ts

-- the first of the locks at the end of these hops, and whether more follow it
abbrev pub first_lock : ℕ → List Hop → LockId
first_lock root [] = lock.Bus root
first_lock root (h ∷ hs) = lock.Mux h.on

abbrev pub locks_on : List Hop → Bool
locks_on [] = false
locks_on (h ∷ hs) = h.parent

-- a deselect is under way where this task waits
abbrev pub is_deselect : Task → Bool
is_deselect (Enter n w) = false
is_deselect (Lock m n w) = false
is_deselect (Free l) = false
is_deselect (Rest left w) = false
is_deselect (Line w) = false
is_deselect (Settle v) = false
is_deselect (AwaitClose k m w) = false
is_deselect (Pass k w) = false
is_deselect (AwaitSelect k w) = false
is_deselect (AwaitWork k) = false
is_deselect (AwaitDeselect k was) = true

-- the tree of a walk, before the looks in front of its next step, and with these answered
abbrev pub walk_of : WalkView → WalkTree
walk_of w = tree_of w.route w.tasks w.came

abbrev pub looked_of : WalkView → WalkTree
looked_of w = tree_of w.route w.looked w.came

-- what lock words tell: the mark of each bus, and the channel that each mux keeps open
pub record SeenView : Type 0 where
  pub marks : List (Option ℕ)
  pub kept : List (Option ℕ)

abbrev pub mark_on : SeenView → ℕ → Option ℕ
mark_on s p = slice_index_or s.marks p None

abbrev pub kept_of : SeenView → ℕ → Option ℕ
kept_of s m = slice_index_or s.kept m None

-- what is known of the muxes on each bus, by what lock words tell
abbrev pub slot_of : Option ℕ → MuxSlot
slot_of (Some m) = Marked m
slot_of None = Clean

abbrev pub slots_of : SeenView → Slots
slots_of s p = record { slot = slot_of (mark_on s p); kept = kept_of s }

-- these marks tell what is known of the bus of each
pub record TellsMarks (v : Slots) (marks : List (Option ℕ)) : Type 0 where
  pub at : (p : ℕ) → p < length marks → mark_in (v p).slot ≡ slice_index_or marks p None

-- what is known after a step, which marks so much where it fails by the port
abbrev pub slots_after : Option Act → Note → ActOutcome → Slots → Slots
slots_after None note out v = v
slots_after (Some (walk.Take l)) note out v = v
slots_after (Some (walk.Free l)) note out v = v
slots_after (Some (walk.Send job left)) note out v = after_job job left note.marks out v
slots_after (Some (walk.Shift job)) note out v = after_job job zero note.marks out v
slots_after (Some (walk.Settle verdict)) note out v = v

-- the byte that a control message writes
abbrev pub select_byte : Hop → ℕ → Option ℕ
select_byte h zero = Some (select_value h.kind h.channel)
select_byte h (suc left) = None

abbrev pub control_of : Job → ℕ → Option ℕ
control_of (Call bus ms) left = None
control_of (Select h) left = select_byte h left
control_of (SwitchOff off) left = Some close_value

-- the message of a job that so many more may follow, as it is sent next
abbrev pub next_msg : Job → ℕ → NextMsg
next_msg job left = record {
  bus = job_bus job;
  purpose = job_purpose job;
  part = part_of job left;
  parts = parts_of job;
  control = control_of job left;
}

-- a stop follows it: each control message is a transfer of its own
abbrev pub ends_with : Purpose → ℕ → ℕ → Bool
ends_with purpose.Call part parts = part == parts
ends_with (purpose.Control m) part parts = true

-- a message of the caller's own transfer went through
abbrev pub is_call_through : Purpose → End → Bool
is_call_through purpose.Call end.Ok = true
is_call_through purpose.Call end.Nack = false
is_call_through purpose.Call end.Slow = false
is_call_through purpose.Call end.Refused = false
is_call_through purpose.Call end.Proto = false
is_call_through purpose.Call (end.Cut q) = false
is_call_through (purpose.Control m) e = false

-- a step of the grammar, as the caller is told it
abbrev pub action_of : Option Act → Action
action_of None = action.Done
action_of (Some (walk.Take l)) = action.Take l
action_of (Some (walk.Free l)) = action.Free l
action_of (Some (walk.Send job left)) = action.Send (next_msg job left)
action_of (Some (walk.Shift job)) = action.Line (line_mux job) (line_level job)
action_of (Some (walk.Settle verdict)) = action.Settle verdict

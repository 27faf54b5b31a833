-- The walk of a transfer, piece by piece. Each piece does a job and goes on with what comes of it; what does the
-- job on the bus that a mux stands on is an argument, so parent-locked and mux-locked muxes differ in `part` alone.
use Rattle.std.specs.Prelude.{ℕ, zero, suc, ◌==◌, Bool, true, false, ◌&&◌, List, [], ◌∷◌, Option, Some, None, if◌then◌else◌}
use Rattle.i2c_base.specs.declared.board.MuxKind.{MuxKind}
use Rattle.i2c_base.specs.declared.board.MuxKind.TheVariants.{Pca9548}
use Rattle.i2c_base.specs.declared.ids.LockId.{LockId}
use Rattle.i2c_base.specs.declared.errno.Errno.{Errno}
use Rattle.i2c_base.specs.Board.{BoardView}
use Rattle.i2c_base.specs.Transfer.{TransferView}
use Rattle.i2c_spec.specs.Tree.{Hop, hops, root_of, locks_of, of_mux}
use Rattle.i2c_spec.specs.Messages.{messages_of}
use Rattle.i2c_spec.specs.Flat.{refusal}
use Rattle.bus_spec.specs.Walk.{KeptOf, Job, Call, Select, SwitchOff, Deselect, Close, Act, Take, Free, Send, Shift, Settle, ActOutcome, JobOutcome, Good, Refused, Unsent, Failed, Note, MarkOf, WalkTree, Ends, Look, Then, Go, On, Last, Over, goes, job_outcome, verdict_of, decides, is_line, more_of}
use Rattle.bus_spec.specs.Slots.{Slots, answer_to}

-- what does a job, with what a failure marks, and goes on
abbrev pub Doer : Type 0
Doer = Job → Note → (JobOutcome → WalkTree) → WalkTree

-- a step that can't fail by the port
abbrev pub plain : Note
plain = record { marks = []; forward = true }

-- a settle stands directly after the step that decides
abbrev pub settled : Bool → Option Errno → WalkTree → WalkTree
settled true verdict w = Then (Settle verdict) plain (λ o. w)
settled false verdict w = w

-- the end of a job, whose last step had this outcome
abbrev pub over : Job → ℕ → Note → (JobOutcome → WalkTree) → ActOutcome → WalkTree
over job left note k out =
    settled (note.forward && decides job (job_outcome job left out)) (verdict_of job left out) (k (job_outcome job left out))

abbrev pub by_go : Go → WalkTree → WalkTree → WalkTree → WalkTree
by_go On next last end = next
by_go Last next last end = last
by_go Over next last end = end

-- the messages of a job, of which so many may follow the next one
abbrev pub messages : ℕ → Doer
messages zero job note k = Then (Send job zero) note (over job zero note k)
messages (suc left) job note k =
    Then (Send job (suc left)) note (λ out.
    by_go (goes job left out) (messages left job note k) (Then (Send job zero) note (over job zero note k))
    (over job (suc left) note k out))

-- a job on the bus itself: one line step, or its messages
abbrev pub at_bus : Doer
at_bus job note k = if is_line job then Then (Shift job) note (over job zero note k) else messages (more_of job) job note k

-- a job between its locks, which are freed in reverse order
abbrev pub locked : List LockId → Doer → Doer
locked [] on job note k = on job note k
locked (l ∷ ls) on job note k = Then (Take l) plain (λ o. locked ls on job note (λ out. Then (Free l) plain (λ o2. k out)))

-- on the bus of a parent-locked mux the locks are held already; on that of a mux-locked one they are taken for each part
abbrev pub part : Bool → List LockId → Doer → Doer
part true ls on = on
part false ls on = locked ls on

-- what a select or a close marks: its own mux first
abbrev pub with_mark : ℕ → ℕ → Note → Note
with_mark on mux note = record { marks = (record { on = on; mux = mux }) ∷ note.marks; forward = note.forward }

-- a deselect starts anew: it marks its own mux alone, and decides nothing
abbrev pub aside : Hop → Note
aside h = record { marks = (record { on = h.on; mux = h.mux }) ∷ []; forward = false }

abbrev pub lost : JobOutcome → JobOutcome
lost Good = Good
lost Refused = Unsent
lost Unsent = Unsent
lost Failed = Failed

-- goes on where the close before was sent and didn't fail by the port
abbrev pub if_sent : JobOutcome → WalkTree → (JobOutcome → WalkTree) → WalkTree
if_sent Good w k = w
if_sent Refused w k = w
if_sent Unsent w k = k Unsent
if_sent Failed w k = k Failed

-- goes on where the select before was good
abbrev pub if_good : JobOutcome → WalkTree → (JobOutcome → WalkTree) → WalkTree
if_good Good w k = w
if_good Refused w k = k Unsent
if_good Unsent w k = k Unsent
if_good Failed w k = k Failed

abbrev pub kind_of : BoardView → ℕ → MuxKind
kind_of b m = of_mux (λ x. x.kind) Pca9548 b m

-- a marked mux is closed first
abbrev pub closing : BoardView → Hop → Doer → Note → (JobOutcome → WalkTree) → WalkTree → Option ℕ → WalkTree
closing b h on note k w None = w
closing b h on note k w (Some m) = on (SwitchOff (Close h.on m (kind_of b m))) (with_mark h.on m note) (λ o. if_sent o w k)

-- after the job the deselect, whatever came of the job; a mux that stays as it is keeps its channel
abbrev pub left_behind : Bool → Hop → Doer → (JobOutcome → WalkTree) → JobOutcome → WalkTree
left_behind true h on k out = k out
left_behind false h on k out = on (SwitchOff (Deselect h)) (aside h) (λ o. k out)

abbrev pub opened : Hop → Doer → Doer
opened h on job note k = on job note (left_behind h.stays h on k)

-- the select, and after it the job; a select that isn't good is not followed by a deselect
abbrev pub chosen : Hop → Doer → Doer
chosen h on job note k = on (Select h) (with_mark h.on h.mux note) (λ o. if_good o (opened h on job note k) k)

-- a mux that stays as it is, and keeps the channel, isn't selected
abbrev pub keeps : Hop → Option ℕ → Bool
keeps h None = false
keeps h (Some c) = h.stays && (c == h.channel)

abbrev pub crossed : Hop → Doer → Job → Note → (JobOutcome → WalkTree) → Option ℕ → WalkTree
crossed h on job note k kept = if keeps h kept then opened h on job note k else chosen h on job note k

abbrev pub behind : BoardView → Hop → Doer → Doer
behind b h on job note k = Look (MarkOf h.on) (closing b h on note k (Look (KeptOf h.on h.mux) (crossed h on job note k)))

-- a job at the end of these hops, whose locks are held; a line step needs no way
abbrev pub inner : BoardView → ℕ → List Hop → Doer
inner b root [] job note k = at_bus job note k
inner b root (h ∷ hs) job note k =
    if is_line job then at_bus job note k
    else behind b h (part h.parent (locks_of root hs) (inner b root hs)) job note k

abbrev pub full : BoardView → ℕ → List Hop → Doer
full b root hs job note k = locked (locks_of root hs) (inner b root hs) job note k

-- the whole walk of a transfer: one settle where it is refused without any step on the bus
abbrev pub walk_by : BoardView → TransferView → Option Errno → WalkTree
walk_by b t (Some e) = Then (Settle (Some e)) plain (λ o. Ends)
walk_by b t None = full b (root_of b t.bus) (hops b t.bus) (Call t.bus (messages_of t)) plain (λ o. Ends)

abbrev pub walk_for : BoardView → TransferView → WalkTree
walk_for b t = walk_by b t (refusal b t)

-- the looks at the front of a walk, answered by what is known
abbrev pub seen : Slots → WalkTree → WalkTree
seen v Ends = Ends
seen v (Look ask next) = seen v (next (answer_to v ask))
seen v (Then act note next) = Then act note next

abbrev pub is_over : WalkTree → Bool
is_over Ends = true
is_over (Look ask next) = false
is_over (Then act note next) = false

-- the next step of a walk without a look in front, what it marks, and what is left behind it
abbrev pub first_act : WalkTree → Option Act
first_act Ends = None
first_act (Look ask next) = None
first_act (Then act note next) = Some act

abbrev pub first_note : WalkTree → Note
first_note Ends = plain
first_note (Look ask next) = plain
first_note (Then act note next) = note

abbrev pub rest_of : WalkTree → ActOutcome → WalkTree
rest_of Ends out = Ends
rest_of (Look ask next) out = Look ask next
rest_of (Then act note next) out = next out

-- What a step changes of the lock words: marks, and the channels that muxes keep open.
use Rattle.std.specs.Prelude.{⊤, ◌≡◌, ℕ, zero, suc, Bool, true, List, [], ◌∷◌, ◌++◌, Option, Some, None, set, if◌then◌else◌}
use Rattle.std.specs.List.{AllByRecursion}
use Rattle.i2c_base.specs.declared.entry.End.TheVariants as end
use Rattle.i2c_spec.specs.Tree.{Hop}
use Rattle.bus_spec.specs.Walk.{Mark, Job, Call, Select, SwitchOff, off_bus, off_mux, Act, ActOutcome, Passed, Sent, Lined, Note}
use Rattle.bus_spec.specs.Walk as walk
use Rattle.mux_plan.specs.declared.marks.MuxUpdate.{MuxUpdate}

-- the bus has no mark from now on, and the mux this channel open; or the mux may be open
abbrev pub cleared : ℕ → ℕ → Option ℕ → MuxUpdate
cleared on mux channel = record { on = on; mark = None; mux = mux; channel = channel }

abbrev pub marked : Mark → MuxUpdate
marked m = record { on = m.on; mark = Some m.mux; mux = m.mux; channel = None }

-- the marks of a failure; the first of several on one bus counts, so it is set last
abbrev pub all_marked : List Mark → List MuxUpdate
all_marked [] = []
all_marked (m ∷ ms) = all_marked ms ++ marked m ∷ []

-- the channel that a select leaves open: a poll opens none
abbrev pub last_open : Hop → ℕ → Option ℕ
last_open h zero = Some h.channel
last_open h (suc left) = None

abbrev pub left_open : Hop → ℕ → ActOutcome → Option ℕ
left_open h left Passed = None
left_open h left (Sent end.Ok bytes) = last_open h left
left_open h left (Sent end.Nack bytes) = None
left_open h left (Sent end.Slow bytes) = None
left_open h left (Sent end.Refused bytes) = None
left_open h left (Sent end.Proto bytes) = None
left_open h left (Sent (end.Cut q) bytes) = None
left_open h left (Lined failed) = if failed then None else Some h.channel

-- what is marked or cleared after a message or line step that turns this mux, which has this channel open where the port
-- didn't fail
abbrev pub updates_on : ℕ → ℕ → Option ℕ → List Mark → ActOutcome → List MuxUpdate
updates_on on mux c marks Passed = []
updates_on on mux c marks (Sent end.Ok bytes) = cleared on mux c ∷ []
updates_on on mux c marks (Sent end.Nack bytes) = cleared on mux c ∷ []
updates_on on mux c marks (Sent end.Slow bytes) = cleared on mux c ∷ []
updates_on on mux c marks (Sent end.Refused bytes) = cleared on mux c ∷ []
updates_on on mux c marks (Sent end.Proto bytes) = cleared on mux c ∷ []
updates_on on mux c marks (Sent (end.Cut q) bytes) = all_marked marks
updates_on on mux c marks (Lined failed) = if failed then all_marked marks else cleared on mux c ∷ []

-- after one of a job; the caller's own messages switch nothing
abbrev pub updates_of_job : Job → ℕ → List Mark → ActOutcome → List MuxUpdate
updates_of_job (Call bus messages) left marks out = []
updates_of_job (Select h) left marks out = updates_on h.on h.mux (left_open h left out) marks out
updates_of_job (SwitchOff off) left marks out = updates_on (off_bus off) (off_mux off) None marks out

-- after a step, which marks so much where it fails by the port
abbrev pub updates_after : Option Act → Note → ActOutcome → List MuxUpdate
updates_after None note out = []
updates_after (Some (walk.Take l)) note out = []
updates_after (Some (walk.Free l)) note out = []
updates_after (Some (walk.Send job left)) note out = updates_of_job job left note.marks out
updates_after (Some (walk.Shift job)) note out = updates_of_job job zero note.marks out
updates_after (Some (walk.Settle verdict)) note out = []

-- the marks of all buses, with these changes, the first one first; a bus that isn't there has no mark
abbrev pub applied : List MuxUpdate → List (Option ℕ) → List (Option ℕ)
applied [] marks = marks
applied (d ∷ ds) marks = applied ds (set marks d.on d.mark)

-- the channels of all muxes, with these changes; a mux that isn't there keeps none
abbrev pub applied_kept : List MuxUpdate → List (Option ℕ) → List (Option ℕ)
applied_kept [] kept = kept
applied_kept (d ∷ ds) kept = applied_kept ds (set kept d.mux d.channel)

-- the bus that a control message or a line step switches on is held, and each that its failure marks
abbrev pub IsSwitchedOn : (ℕ → Bool) → Job → Type 0
IsSwitchedOn held (Call bus messages) = ⊤
IsSwitchedOn held (Select h) = held h.on ≡ true
IsSwitchedOn held (SwitchOff off) = held (off_bus off) ≡ true

abbrev pub MayMark : (ℕ → Bool) → Option Act → Note → Type 0
MayMark held None note = ⊤
MayMark held (Some (walk.Take l)) note = ⊤
MayMark held (Some (walk.Free l)) note = ⊤
MayMark held (Some (walk.Send job left)) note = IsSwitchedOn held job × AllByRecursion (λ m. held m.on ≡ true) note.marks
MayMark held (Some (walk.Shift job)) note = IsSwitchedOn held job × AllByRecursion (λ m. held m.on ≡ true) note.marks
MayMark held (Some (walk.Settle verdict)) note = ⊤

-- each is of a bus that is held
abbrev pub AreOn : (ℕ → Bool) → List MuxUpdate → Type 0
AreOn held updates = AllByRecursion (λ d. held d.on ≡ true) updates

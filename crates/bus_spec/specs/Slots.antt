-- What is known of the muxes on each bus.
use Rattle.std.specs.Prelude.{ℕ, zero, suc, ◌==◌, List, [], ◌∷◌, Option, Some, None, if◌then◌else◌}
use Rattle.i2c_spec.specs.Tree.{Hop}
use Rattle.i2c_spec.specs.History.{changed_at}
use Rattle.i2c_base.specs.declared.entry.End.TheVariants as end
use Rattle.bus_spec.specs.Walk.{Ask, MarkOf, KeptOf, Mark, Job, Call, Select, SwitchOff, off_bus, off_mux, ActOutcome, Passed, Sent, Lined, first_byte}

-- a bus as a whole: its muxes are as `kept` tells; one of them may have been left open otherwise. An arbitrator that is being
-- asked may be found taken so many times more, or it was found free
pub data MuxSlot : Type 0 where
  Clean : MuxSlot
  Marked : (mux : ℕ) → MuxSlot
  Polled : (hop : Hop) → (more : ℕ) → MuxSlot
  Found : (hop : Hop) → MuxSlot

pub record At : Type 0 where
  pub slot : MuxSlot
  -- the channel that each mux on the bus has open
  pub kept : ℕ → Option ℕ

abbrev pub Slots : Type 0
Slots = ℕ → At

abbrev pub all_clean : Slots
all_clean p = record { slot = Clean; kept = λ m. None }

-- a step of a mux on a bus leaves this slot there, and this channel of the mux
abbrev pub turned_at : At → ℕ → MuxSlot → Option ℕ → At
turned_at x m s c = record { slot = s; kept = changed_at x.kept m c }

abbrev pub turned : Slots → ℕ → ℕ → MuxSlot → Option ℕ → Slots
turned v p m s c = changed_at v p (turned_at (v p) m s c)

abbrev pub mark_in : MuxSlot → Option ℕ
mark_in (Marked m) = Some m
mark_in Clean = None
mark_in (Polled h more) = None
mark_in (Found h) = None

-- what answers a question
abbrev pub answer_to : Slots → Ask → Option ℕ
answer_to v (MarkOf p) = mark_in (v p).slot
answer_to v (KeptOf p m) = (v p).kept m

-- the first of several marks on one bus counts; of a marked mux no channel is known
abbrev pub set_marks : List Mark → Slots → Slots
set_marks [] v = v
set_marks (m ∷ ms) v = changed_at (set_marks ms v) m.on (turned_at (v m.on) m.mux (Marked m.mux) None)

-- a poll that went through: 0 finds the arbitrator free, 1 with its other controller, which is found once less
abbrev pub polled_slot : Hop → ℕ → List ℕ → MuxSlot
polled_slot h zero bytes = if first_byte bytes == 0 then Found h else Clean
polled_slot h (suc left) bytes = if first_byte bytes == 0 then Found h else Polled h left

-- a select that went through: its write opens the channel, a poll comes before it
abbrev pub select_told : Hop → ℕ → List ℕ → Slots → Slots
select_told h zero bytes v = turned v h.on h.mux Clean (Some h.channel)
select_told h (suc left) bytes v = turned v h.on h.mux (polled_slot h left bytes) None

abbrev pub shut : ℕ → ℕ → Slots → Slots
shut on mux v = turned v on mux Clean None

abbrev pub after_select : Hop → ℕ → List Mark → ActOutcome → Slots → Slots
after_select h left marks (Sent end.Ok bytes) v = select_told h left bytes v
after_select h left marks (Sent end.Nack bytes) v = shut h.on h.mux v
after_select h left marks (Sent end.Slow bytes) v = shut h.on h.mux v
after_select h left marks (Sent end.Refused bytes) v = shut h.on h.mux v
after_select h left marks (Sent end.Proto bytes) v = shut h.on h.mux v
after_select h left marks (Sent (end.Cut q) bytes) v = set_marks marks v
after_select h left marks (Lined failed) v = if failed then set_marks marks v else turned v h.on h.mux Clean (Some h.channel)
after_select h left marks Passed v = v

-- a deselect or a close that was sent, and didn't fail by the port, leaves the mux shut, also where nobody acknowledged it
abbrev pub after_off : ℕ → ℕ → List Mark → ActOutcome → Slots → Slots
after_off on mux marks (Sent end.Ok bytes) v = shut on mux v
after_off on mux marks (Sent end.Nack bytes) v = shut on mux v
after_off on mux marks (Sent end.Slow bytes) v = shut on mux v
after_off on mux marks (Sent end.Refused bytes) v = shut on mux v
after_off on mux marks (Sent end.Proto bytes) v = shut on mux v
after_off on mux marks (Sent (end.Cut q) bytes) v = set_marks marks v
after_off on mux marks (Lined failed) v = if failed then set_marks marks v else shut on mux v
after_off on mux marks Passed v = v

-- what is known after a message or line step of a job, which marks so much where it fails by the port
abbrev pub after_job : Job → ℕ → List Mark → ActOutcome → Slots → Slots
after_job (Call bus messages) left marks out v = v
after_job (Select h) left marks out v = after_select h left marks out v
after_job (SwitchOff off) left marks out v = after_off (off_bus off) (off_mux off) marks out v

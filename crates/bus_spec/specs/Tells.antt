-- What an entry tells of the step that it is: all that its line says of a lock, a message or a line step, beside the next
-- step of a walk. A journal's rules cite it, and so does a step of the core.
use Rattle.std.specs.Prelude.{◌≡◌, ℕ, zero, Bool, List, [], ◌∷◌, Option, Some, None}
use Rattle.i2c_base.specs.declared.ids.Node.{Node}
use Rattle.i2c_base.specs.declared.entry.Entry.{Entry}
use Rattle.i2c_base.specs.declared.entry.Entry.TheVariants as entry
use Rattle.i2c_base.specs.declared.entry.End.{End}
use Rattle.i2c_base.specs.declared.entry.End.TheVariants as end
use Rattle.i2c_base.specs.declared.errno.Errno.{Errno}
use Rattle.i2c_base.specs.Board.{BoardView}
use Rattle.i2c_spec.specs.Tree.{root_of}
use Rattle.i2c_spec.specs.World.{World, hearers}
use Rattle.bus_spec.specs.Walk.{Job, Take, Free, Send, Shift, Settle, WalkTree, job_bus, job_purpose, part_of, parts_of, message_of, line_mux, line_level}
use Rattle.bus_spec.specs.Grammar.{first_act}
use Rattle.bus_spec.specs.Readings.{MessageEntry, OfMessage}
use Rattle.bus_spec.specs.Past.{Now, talk_of}

-- who has heard is the one that hears the start, or nobody; nothing is said where the start itself failed (UM10204
-- section 3.1.10: the start is heard by all on the bus, and acknowledged by who has the address)
abbrev pub heard_list : Option Node → List Node
heard_list None = []
heard_list (Some x) = x ∷ []

abbrev pub HearsIn : World → ℕ → Bool → Option Node → End → Type 0
HearsIn w addr reading heard (end.Cut zero) = heard ≡ None
HearsIn w addr reading heard e = hearers w addr reading ≡ heard_list heard

-- a message of a job, of which so many more may follow: what is sent, and what came of it in the world of its root
pub record TellsMessage (b : BoardView) (n : Now) (job : Job) (left : ℕ) (m : MessageEntry) : Type 0 where
  pub on_bus : m.bus ≡ job_bus job
  pub for_purpose : m.purpose ≡ job_purpose job
  pub as_part : m.part ≡ part_of job left
  pub of_parts : m.parts ≡ parts_of job
  pub to_addr : m.addr ≡ (message_of b job left).addr
  pub in_direction : m.reading ≡ (message_of b job left).reading
  pub bytes_told : m.bytes ≡ (talk_of b n job left m.end).bytes
  pub end_told : m.end ≡ (talk_of b n job left m.end).end
  pub heard_told : HearsIn (n.worlds (root_of b (job_bus job))) m.addr m.reading m.heard m.end

-- the line step of a job
pub record TellsLine (job : Job) (mux level : ℕ) : Type 0 where
  pub of_mux : mux ≡ line_mux job
  pub to_level : level ≡ line_level job

-- the entry is the next step of this walk, and tells all of it
abbrev pub Tells : BoardView → Now → WalkTree → Entry → Type 0
Tells b n w (entry.Take c l) = first_act w ≡ Some (Take l)
Tells b n w (entry.Free c l) = first_act w ≡ Some (Free l)
Tells b n w (entry.Line c mux level failed) = (job : Job) × (first_act w ≡ Some (Shift job)) × TellsLine job mux level
Tells b n w (entry.Settle c r cut) = (verdict : Option Errno) × (first_act w ≡ Some (Settle verdict))
Tells b n w e = (job : Job) × (left : ℕ) × (first_act w ≡ Some (Send job left)) × OfMessage (TellsMessage b n job left) e

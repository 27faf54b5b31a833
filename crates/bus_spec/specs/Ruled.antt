-- What makes a journal legal, in the field's words alone: no walk tree stands in it. Beside the journal there is what each entry
-- does; the walk rule and the places of the entries fix it.
use Rattle.std.specs.Prelude.{◌≡◌, ℕ, ◌<◌, ◌==◌, false, List, [], ◌∷◌, ◌++◌, Option, Some, None, if◌then◌else◌}
use Rattle.i2c_base.specs.declared.ids.LockId.{LockId}
use Rattle.i2c_base.specs.declared.errno.Errno.{Errno}
use Rattle.i2c_base.specs.declared.entry.Entry.{Entry}
use Rattle.i2c_base.specs.declared.entry.Entry.TheVariants as entry
use Rattle.i2c_base.specs.declared.reply.Reply.{Reply}
use Rattle.i2c_base.specs.Board.{BoardView}
use Rattle.i2c_base.specs.Transfer.{TransferView}
use Rattle.i2c_spec.specs.Tree.{root_of}
use Rattle.i2c_spec.specs.World.{World}
use Rattle.i2c_spec.specs.History.{Asks}
use Rattle.bus_spec.specs.Walk.{Job, Act, Take, Free, Send, Shift, Settle, job_bus, job_purpose, part_of, parts_of, message_of}
use Rattle.bus_spec.specs.Slots.{answer_to}
use Rattle.bus_spec.specs.Readings.{MessageEntry, OfMessage, caller_of, holder, Everywhere}
use Rattle.bus_spec.specs.Past.{is_due}
use Rattle.bus_spec.specs.Places.{transfer_at, outcome_of}
use Rattle.bus_spec.specs.Tells.{HearsIn, TellsLine}
use Rattle.bus_spec.specs.WalkRule.{Deed, PathStep, Saw, Did, IsWalk, first_done}
use Rattle.bus_spec.specs.Stand.{Stand, said_in, stand}
use Rattle.bus_spec.specs.Legal.{KeepsLocks, KeepsWhole, KeepsReplies, KeepsSettles, IsReached, is_forced}

-- a message of a job, of which so many more may follow: what is sent, and what came of it in the world of its root
pub record SaysMessage (b : BoardView) (worlds : ℕ → World) (job : Job) (left : ℕ) (m : MessageEntry) : Type 0 where
  pub on_bus : m.bus ≡ job_bus job
  pub for_purpose : m.purpose ≡ job_purpose job
  pub as_part : m.part ≡ part_of job left
  pub of_parts : m.parts ≡ parts_of job
  pub to_addr : m.addr ≡ (message_of b job left).addr
  pub in_direction : m.reading ≡ (message_of b job left).reading
  pub bytes_told : m.bytes ≡ (said_in b worlds job left m.end).bytes
  pub end_told : m.end ≡ (said_in b worlds job left m.end).end
  pub heard_told : HearsIn (worlds (root_of b (job_bus job))) m.addr m.reading m.heard m.end

-- an entry tells all of the step that is done there
abbrev pub SaysAct : BoardView → (ℕ → World) → Act → Entry → Type 0
SaysAct b worlds act (entry.Take c l) = act ≡ Take l
SaysAct b worlds act (entry.Free c l) = act ≡ Free l
SaysAct b worlds act (entry.Line c mux level failed) = (job : Job) × (act ≡ Shift job) × TellsLine job mux level
SaysAct b worlds act (entry.Settle c r cut) = (verdict : Option Errno) × (act ≡ Settle verdict)
SaysAct b worlds act e = (job : Job) × (left : ℕ) × (act ≡ Send job left) × OfMessage (SaysMessage b worlds job left) e

-- an entry of a caller, where everything stood before it, and what it does
pub record Doing : Type 0 where
  pub before : Stand
  pub deed : Deed
  pub entry : Entry

abbrev pub doings_in : BoardView → ℕ → List Deed → List Entry → List Doing
doings_in b c deeds [] = []
doings_in b c [] (e ∷ past) = []
doings_in b c (d ∷ deeds) (e ∷ past) =
    if caller_of e == c then doings_in b c deeds past ++ (record { before = stand b deeds past; deed = d; entry = e }) ∷ []
    else doings_in b c deeds past

-- the replies that they settle
abbrev pub replies_said : List Doing → List Reply
replies_said [] = []
replies_said (s ∷ ss) = reply_said s.entry (replies_said ss)
  where
    reply_said : Entry → List Reply → List Reply
    reply_said (entry.Settle c r cut) rs = r ∷ rs
    reply_said e rs = rs

-- a look is answered by what is known of its bus where the next entry stands; an entry is the step that is done there, tells all
-- of it, and what came of it; and it marks what its way says
abbrev pub AreSaid : BoardView → List PathStep → List Doing → Type 0
AreSaid b [] steps = steps ≡ []
AreSaid b (Saw ask answer ∷ ps) [] = ⊥
AreSaid b (Saw ask answer ∷ ps) (s ∷ steps) = (answer ≡ answer_to s.before.slot ask) × AreSaid b ps (s ∷ steps)
AreSaid b (Did deed out ∷ ps) [] = ⊥
AreSaid b (Did deed out ∷ ps) (s ∷ steps) =
    SaysAct b s.before.worlds deed.act s.entry × (out ≡ outcome_of s.entry) × (s.deed ≡ deed) × AreSaid b ps steps

-- they are the walks of what the caller asks for, one after the other, each after the replies of those before; the last one
-- may be the front of a walk, which doesn't end before a settle
pub data AreDone (b : BoardView) (asks : List Reply → Option TransferView) : List Reply → List Doing → Type 0 where
  nothing : (rs : List Reply) → AreDone b asks rs []
  transfer : (rs : List Reply) (t : TransferView) (walk : List PathStep) (mine rest all : List Doing) (r : Reply)
      → asks rs ≡ Some t → IsWalk b t walk → AreSaid b walk mine → replies_said mine ≡ r ∷ []
      → AreDone b asks (rs ++ r ∷ []) rest → all ≡ mine ++ rest → AreDone b asks rs all
  begun : (rs : List Reply) (t : TransferView) (front rest : List PathStep) (mine : List Doing)
      → asks rs ≡ Some t → IsWalk b t (front ++ rest) → AreSaid b front mine → is_due (first_done rest) ≡ false
      → AreDone b asks rs mine

-- each message reached its target, where everything stood before it; and each entry does something
abbrev pub ReachesBy : BoardView → Asks → List Deed → List Entry → Type 0
ReachesBy b asks deeds [] = Unit {0}
ReachesBy b asks [] (e ∷ past) = ⊥
ReachesBy b asks (d ∷ deeds) (e ∷ past) =
    OfMessage (λ m. IsReached b ((stand b deeds past).worlds (root_of b m.bus)) (is_forced (transfer_at asks past m.caller)) m) e
    × ReachesBy b asks deeds past

-- a journal keeps the rules of the bus, for a board, so many callers, and what they ask for
pub record IsRuled (b : BoardView) (callers : ℕ) (asks : Asks) (past : List Entry) : Type 0 where
  pub known : Everywhere (λ e before. caller_of e < callers) past
  pub locks : KeepsLocks b past
  pub whole : KeepsWhole b past
  pub deeds : List Deed
  pub walks : (c : ℕ) → AreDone b (asks c) [] (doings_in b c deeds past)
  pub reach : ReachesBy b asks deeds past
  pub replies_kept : KeepsReplies b asks past
  pub settles : KeepsSettles b asks past

-- and complete: nobody asks for more, no lock is held
pub record IsThrough (callers : ℕ) (asks : Asks) (past : List Entry) : Type 0 where
  pub asked : (c : ℕ) → c < callers → transfer_at asks past c ≡ None
  pub free : (l : LockId) → holder past l ≡ None

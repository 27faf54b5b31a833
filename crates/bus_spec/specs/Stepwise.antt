-- When one more entry may come after a past: a condition on where everything stands and on the entry alone. This is
-- what a step of the core shows, and what a checker of journals tests.
use Rattle.std.specs.Prelude.{◌≡◌, ℕ, ◌<◌, ◌⊎◌, List, [], ◌∷◌, Option, Some, None}
use Rattle.i2c_base.specs.declared.ids.LockId.{LockId}
use Rattle.i2c_base.specs.declared.entry.Entry.{Entry}
use Rattle.i2c_base.specs.declared.entry.Entry.TheVariants as entry
use Rattle.i2c_base.specs.declared.reply.Reply.{Reply}
use Rattle.i2c_base.specs.declared.reply.Reply.TheVariants as reply
use Rattle.i2c_base.specs.declared.errno.Errno.{Errno}
use Rattle.i2c_base.specs.Board.{BoardView}
use Rattle.i2c_base.specs.Transfer.{TransferView}
use Rattle.i2c_spec.specs.Flat.{or_done}
use Rattle.i2c_spec.specs.History.{Asks}
use Rattle.bus_spec.specs.Walk.{Act, Settle}
use Rattle.bus_spec.specs.Grammar.{first_act}
use Rattle.bus_spec.specs.Readings.{rank, caller_of}
use Rattle.bus_spec.specs.Past.{Now, current, now}
use Rattle.bus_spec.specs.Tells.{Tells}

-- the caller's next step is this one
abbrev pub IsNext : BoardView → Asks → Now → ℕ → Act → Type 0
IsNext b asks n c act = first_act (current b asks n c) ≡ Some act

-- the entry is its caller's next step, and tells all of it
abbrev pub TellsNext : BoardView → Asks → Now → Entry → Type 0
TellsNext b asks n e = Tells b n (current b asks n (caller_of e)) e

-- the lock's rank is lower than that of every lock that the caller has
abbrev pub IsBelow : BoardView → LockId → List LockId → Type 0
IsBelow b l [] = Unit {0}
IsBelow b l (k ∷ ks) = (rank b l < rank b k) × IsBelow b l ks

-- the reply that a settle decides
abbrev pub reply_by : Option Errno → Option TransferView → List ℕ → Reply
reply_by (Some e) t got = reply.Err e
reply_by None (Some t) got = or_done None t got
reply_by None None got = reply.Done

-- an entry may come next: its caller is one of them, no settle of another is due, and it tells its caller's next step.
-- A lock that is taken has no holder, and a lower rank than those of its caller; a settle has the reply that the walk
-- decides, and the cut that its caller's last entry tells
abbrev pub May : BoardView → ℕ → Asks → Now → Entry → Type 0
May b callers asks n (entry.Take c l) =
    (c < callers) × (n.due ≡ None) × TellsNext b asks n (entry.Take c l) × (n.holder l ≡ None) × IsBelow b l (n.held c)
May b callers asks n (entry.Settle c r cut) =
    (c < callers) × ((n.due ≡ None) ⊎ (n.due ≡ Some c)) × (verdict : Option Errno) × IsNext b asks n c (Settle verdict)
    × (r ≡ reply_by verdict (asks c (n.settled c)) (n.got c)) × (cut ≡ n.cut c)
May b callers asks n e = (caller_of e < callers) × (n.due ≡ None) × TellsNext b asks n e

-- each entry of a past might come where it did
abbrev pub IsStepwise : BoardView → ℕ → Asks → List Entry → Type 0
IsStepwise b callers asks [] = Unit {0}
IsStepwise b callers asks (e ∷ past) = May b callers asks (now b asks past) e × IsStepwise b callers asks past

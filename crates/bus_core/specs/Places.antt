-- The parts of the core as plain lists: the callers with their seats, and what they ask for by their numbers.
use Rattle.std.specs.Prelude.{◌≡◌, ℕ, ◌==◌, List, [], ◌∷◌, map, take, sum_by, Option, Some, None, if◌then◌else◌}
use Rattle.std.specs.Option.{option_map_or}
use Rattle.i2c_base.specs.declared.caller.Caller.{Ghosts as CallerGhosts}
use Rattle.i2c_base.specs.declared.reply.Reply.{Reply}
use Rattle.i2c_base.specs.Need.{Covers}
use Rattle.i2c_base.specs.Transfer.{TransferView, written_of}
use Rattle.i2c_spec.specs.History.{Asks}
use Rattle.bus_spec.specs.Walk.{WalkTree}
use Rattle.mux_plan.specs.Plans.{walk_of}
use Rattle.core_laws.specs.Core.{Place}
use Rattle.bus_core.specs.Replies.{RepliesView, reply_decided}
use Rattle.bus_core.specs.declared.replies.Decided.{Decided}
use Rattle.bus_core.specs.declared.seat.Seat.{Seat}

-- what is left of a caller's walk
abbrev pub walk_left : {C : Type 0} → Seat C → WalkTree
walk_left s = walk_of s.walk

-- the bytes of its writes that went through are counted
abbrev pub HasCounted : {C : Type 0} → Seat C → Type 0
HasCounted s = s.written ≡ sum_by written_of (take s.sent s.transfer.msgs)

-- the reply that is settled and not handed over yet
abbrev pub owed_by : Option Decided → RepliesView → List Reply
owed_by None r = []
owed_by (Some d) r = reply_decided d r ∷ []

-- what the transfer has read, until it is settled
abbrev pub got_by : Option Decided → RepliesView → List ℕ
got_by None r = r.got
got_by (Some d) r = []

abbrev pub place_of : {C S : Type 0} → CallerGhosts C S → Seat C → Place
place_of c s =
    record {
      number = s.number;
      taken = c.taken s.caller;
      owed = owed_by s.decided s.replies;
      transfer = s.transfer;
      tree = walk_left s;
      sent = s.sent;
      got = got_by s.decided s.replies;
      cut = s.cut;
    }

abbrev pub places_of : {C S : Type 0} → CallerGhosts C S → List (Seat C) → List Place
places_of c seats = map (place_of c) seats

-- each caller's number, and what it was opened with
abbrev pub script_of : {C S : Type 0} → CallerGhosts C S → Seat C → ℕ × S
script_of c s = (s.number, c.script s.caller)

abbrev pub scripts_of : {C S : Type 0} → CallerGhosts C S → List (Seat C) → List (ℕ × S)
scripts_of c seats = map (script_of c) seats

-- what the caller with this number was opened with
abbrev pub script_at : {S : Type 0} → List (ℕ × S) → ℕ → Option S
script_at [] n = None
script_at (s ∷ ss) n = if s.0 == n then Some s.1 else script_at ss n

-- each caller asks by that, and has so much left; who isn't there asks for nothing
abbrev pub asks_of : {S : Type 0} → (S → List Reply → Option TransferView) → List (ℕ × S) → Asks
asks_of asked scripts n rs = option_map_or (λ s. asked s rs) (script_at scripts n) None

abbrev pub left_of : {S : Type 0} → (S → List Reply → ℕ) → List (ℕ × S) → ℕ → List Reply → ℕ
left_of left scripts n rs = option_map_or (λ s. left s rs) (script_at scripts n) 0

-- what its caller asks for next, by the replies that it has taken
abbrev pub asked_next : {C S : Type 0} → CallerGhosts C S → Seat C → Option TransferView
asked_next c s = c.asked (c.script s.caller) (c.taken s.caller)

-- a caller has room for the replies that it is still to take
abbrev pub HasRoom : {C S : Type 0} → CallerGhosts C S → C → Type 0
HasRoom c caller = Covers (c.spare caller) (c.owed (c.script caller) (c.taken caller))

-- the caller of a seat has it
abbrev pub HasSpare : {C S : Type 0} → CallerGhosts C S → Seat C → Type 0
HasSpare c s = HasRoom c s.caller

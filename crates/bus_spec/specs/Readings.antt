-- What a journal tells by itself. A past is a list of entries, the newest first.
use Rattle.std.specs.Prelude.{ℕ, ◌+◌, ◌-◌, ◌==◌, Bool, true, false, ◌&&◌, List, [], ◌∷◌, ◌++◌, Option, Some, None, if◌then◌else◌}
use Rattle.i2c_base.specs.declared.ids.LockId.{LockId}
use Rattle.i2c_base.specs.declared.ids.LockId.TheVariants as lock
use Rattle.i2c_base.specs.declared.ids.Node.{Node}
use Rattle.i2c_base.specs.declared.entry.Entry.{Entry}
use Rattle.i2c_base.specs.declared.entry.Entry.TheVariants as entry
use Rattle.i2c_base.specs.declared.entry.End.{End}
use Rattle.i2c_base.specs.declared.entry.End.TheVariants as end
use Rattle.i2c_base.specs.declared.entry.Purpose.{Purpose}
use Rattle.i2c_base.specs.declared.entry.Purpose.TheVariants as purpose
use Rattle.i2c_base.specs.declared.reply.Reply.{Reply}
use Rattle.i2c_base.specs.declared.reply.Cut.{Cut}
use Rattle.i2c_base.specs.declared.reply.Cut.TheVariants as cut
use Rattle.i2c_base.specs.Board.{BoardView}
use Rattle.i2c_spec.specs.Tree.{depth, root_of, home_of_mux}

-- a message's entry: all that its line tells
pub record MessageEntry : Type 0 where
  pub caller : ℕ
  pub bus : ℕ
  pub purpose : Purpose
  -- which message of its transfer it is, and how many these are
  pub part : ℕ
  pub parts : ℕ
  pub addr : ℕ
  pub reading : Bool
  pub bytes : List ℕ
  pub heard : Option Node
  pub end : End

-- what a message's entry gives; any other entry gives `other`
abbrev pub of_message : {X : Type 0} → X → (MessageEntry → X) → Entry → X
of_message other f (entry.Message c bus why part parts addr reading bytes heard e) =
    f (record {
      caller = c;
      bus = bus;
      purpose = why;
      part = part;
      parts = parts;
      addr = addr;
      reading = reading;
      bytes = bytes;
      heard = heard;
      end = e;
    })
of_message other f e = other

-- a fact about a message's entry; nothing is said of any other
abbrev pub OfMessage : (MessageEntry → Type 0) → Entry → Type 0
OfMessage P (entry.Message c bus why part parts addr reading bytes heard e) =
    P (record {
      caller = c;
      bus = bus;
      purpose = why;
      part = part;
      parts = parts;
      addr = addr;
      reading = reading;
      bytes = bytes;
      heard = heard;
      end = e;
    })
OfMessage P e = Unit {0}

abbrev pub is_lock : LockId → LockId → Bool
is_lock (lock.Bus r) (lock.Bus s) = r == s
is_lock (lock.Bus r) (lock.Mux q) = false
is_lock (lock.Mux p) (lock.Bus s) = false
is_lock (lock.Mux p) (lock.Mux q) = p == q

-- locks are taken in falling rank, so towards the root (the ranks are this project's)
abbrev pub rank : BoardView → LockId → ℕ
rank b (lock.Bus r) = 0
rank b (lock.Mux p) = depth b p + 1

abbrev pub caller_of : Entry → ℕ
caller_of (entry.Take c l) = c
caller_of (entry.Free c l) = c
caller_of (entry.Line c mux level failed) = c
caller_of (entry.Settle c reply cut) = c
caller_of e = of_message 0 (λ m. m.caller) e

-- who has a lock: the caller of its last take that no free follows
abbrev pub holder : List Entry → LockId → Option ℕ
holder [] l = None
holder (entry.Take c k ∷ past) l = if is_lock k l then Some c else holder past l
holder (entry.Free c k ∷ past) l = if is_lock k l then None else holder past l
holder (e ∷ past) l = holder past l

-- the replies that are settled for a caller, in order
abbrev pub replies : List Entry → ℕ → List Reply
replies [] c = []
replies (entry.Settle k reply cut ∷ past) c = if k == c then replies past c ++ reply ∷ [] else replies past c
replies (e ∷ past) c = replies past c

-- the callers and cuts of the settles, the newest first
abbrev pub order : List Entry → List (ℕ × Cut)
order [] = []
order (entry.Settle c reply cut ∷ past) = (c, cut) ∷ order past
order (e ∷ past) = order past

-- the root on which an entry is seen
abbrev pub is_on_root : BoardView → ℕ → Entry → Bool
is_on_root b r (entry.Line c mux level failed) = root_of b (home_of_mux b mux) == r
is_on_root b r e = of_message false (λ m. root_of b m.bus == r) e

abbrev pub is_call : Purpose → Bool
is_call purpose.Call = true
is_call (purpose.Control m) = false

-- a message of the caller's own transfer on this root
abbrev pub is_call_of : BoardView → ℕ → ℕ → Entry → Bool
is_call_of b r c e = of_message false (λ m. (m.caller == c) && is_call m.purpose && (root_of b m.bus == r)) e

abbrev pub is_settle_of : ℕ → Entry → Bool
is_settle_of c (entry.Settle k reply cut) = k == c
is_settle_of c e = false

-- the cut that an entry tells for a settle of its caller directly after it
abbrev pub message_cut : Purpose → ℕ → End → Cut
message_cut purpose.Call part (end.Cut q) = cut.At (part - 1) q
message_cut (purpose.Control m) part (end.Cut q) = cut.Way
message_cut p part end.Ok = cut.No
message_cut p part end.Nack = cut.No
message_cut p part end.Slow = cut.No
message_cut p part end.Refused = cut.No
message_cut p part end.Proto = cut.No

abbrev pub cut_told : Entry → Cut
cut_told (entry.Line c mux level failed) = if failed then cut.Way else cut.No
cut_told e = of_message cut.No (λ m. message_cut m.purpose m.part m.end) e

-- that of the caller's last entry
abbrev pub last_cut : List Entry → ℕ → Cut
last_cut [] c = cut.No
last_cut (e ∷ past) c = if caller_of e == c then cut_told e else last_cut past c

-- a fact about each entry of a past and what came before it
abbrev pub Everywhere : (Entry → List Entry → Type 0) → List Entry → Type 0
Everywhere P [] = Unit {0}
Everywhere P (e ∷ past) = P e past × Everywhere P past

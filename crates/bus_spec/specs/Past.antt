-- Where everything stands after a past: one record, folded over the entries. What needs each other stands in it: the
-- walks need what is known of each bus, that needs the walks, and the worlds need the messages of both.
use Rattle.std.specs.Prelude.{ℕ, ◌==◌, Bool, true, false, List, [], ◌∷◌, ◌++◌, reverse, Option, Some, None, if◌then◌else◌}
use Rattle.i2c_base.specs.declared.ids.LockId.{LockId}
use Rattle.i2c_base.specs.declared.entry.Entry.{Entry}
use Rattle.i2c_base.specs.declared.entry.Entry.TheVariants as entry
use Rattle.i2c_base.specs.declared.entry.End.{End}
use Rattle.i2c_base.specs.declared.entry.End.TheVariants as end
use Rattle.i2c_base.specs.declared.port.PortCall.{PortCall}
use Rattle.i2c_base.specs.declared.port.PortCall.TheVariants as call
use Rattle.i2c_base.specs.declared.reply.Reply.{Reply}
use Rattle.i2c_base.specs.declared.reply.Cut.{Cut}
use Rattle.i2c_base.specs.declared.reply.Cut.TheVariants as cut
use Rattle.i2c_base.specs.Board.{BoardView}
use Rattle.i2c_base.specs.Transfer.{TransferView}
use Rattle.i2c_spec.specs.Tree.{root_of, home_of_mux}
use Rattle.i2c_spec.specs.World.{World, after, opening_world}
use Rattle.i2c_spec.specs.Conversation.{TalkTold, talk, world_listener}
use Rattle.i2c_spec.specs.Flat.{block_limit}
use Rattle.i2c_spec.specs.History.{Asks, changed_at}
use Rattle.bus_spec.specs.Walk.{Job, Call, Select, SwitchOff, Act, Take, Free, Send, Shift, Settle, ActOutcome, Passed, Sent, Lined, WalkTree, Ends, Note, Go, On, Last, Over, job_bus, message_of, is_last, goes, line_mux, line_level}
use Rattle.bus_spec.specs.Slots.{Slots, all_clean, mark_in, after_job}
use Rattle.bus_spec.specs.Grammar.{walk_for, seen, is_over, first_act, first_note, rest_of}
use Rattle.bus_spec.specs.Readings.{is_lock, cut_told, of_message}

pub record Now : Type 0 where
  -- what is left of each caller's walk; it has ended where none is under way
  pub walk : ℕ → WalkTree
  -- the locks of each caller, the last one taken first, and who has each lock
  pub held : ℕ → List LockId
  pub holder : LockId → Option ℕ
  -- what is known of the muxes on each bus
  pub slot : Slots
  -- each root's world, and the calls of its port, newest first
  pub worlds : ℕ → World
  pub calls : ℕ → List PortCall
  -- each caller's replies, and the bytes that the transfer under way has read
  pub settled : ℕ → List Reply
  pub got : ℕ → List ℕ
  -- the cut that each caller's last entry tells
  pub cut : ℕ → Cut
  -- who must settle next
  pub due : Option ℕ
  -- on each root, whose messages have begun and not ended
  pub inside : ℕ → Option ℕ

abbrev pub opening : BoardView → Now
opening b =
    record {
      walk = λ c. Ends;
      held = λ c. [];
      holder = λ l. None;
      slot = all_clean;
      worlds = opening_world b;
      calls = λ r. [];
      settled = λ c. [];
      got = λ c. [];
      cut = λ c. cut.No;
      due = None;
      inside = λ r. None;
    }

-- the walk that a caller begins with what it asks for next
abbrev pub begun : BoardView → Option TransferView → WalkTree
begun b None = Ends
begun b (Some t) = walk_for b t

-- what a caller does next: its walk goes on, or the next one begins; the looks in front are answered
abbrev pub current : BoardView → Asks → Now → ℕ → WalkTree
current b asks n c = seen n.slot (if is_over (n.walk c) then begun b (asks c (n.settled c)) else n.walk c)

abbrev pub is_due : Option Act → Bool
is_due None = false
is_due (Some (Settle verdict)) = true
is_due (Some (Take l)) = false
is_due (Some (Free l)) = false
is_due (Some (Send job left)) = false
is_due (Some (Shift job)) = false

-- the caller's next step is done, and had this outcome: its walk goes on from where it stood before
abbrev pub moved : BoardView → Asks → Now → Now → ℕ → Entry → ActOutcome → Now
moved b asks old new c e out =
    record new {
      walk = changed_at old.walk c (rest_of (current b asks old c) out);
      cut = changed_at old.cut c (cut_told e);
    }

-- after a message or a line step that decides, the settle is due
abbrev pub with_due : ℕ → Now → Now
with_due c n = record n { due = if is_due (first_act (n.walk c)) then Some c else None }

-- a lock's entry changes that lock alone
abbrev pub held_by : (LockId → Option ℕ) → LockId → Option ℕ → LockId → Option ℕ
held_by f l who k = if is_lock l k then who else f k

abbrev pub taken : Now → ℕ → LockId → Now
taken n c l = record n { held = changed_at n.held c (l ∷ n.held c); holder = held_by n.holder l (Some c) }

abbrev pub without : LockId → List LockId → List LockId
without l [] = []
without l (k ∷ ks) = if is_lock k l then ks else k ∷ without l ks

abbrev pub freed : Now → ℕ → LockId → Now
freed n c l = record n { held = changed_at n.held c (without l (n.held c)); holder = held_by n.holder l None }

-- the place of failure that an end tells
abbrev pub cut_of : End → Option ℕ
cut_of (end.Cut q) = Some q
cut_of end.Ok = None
cut_of end.Nack = None
cut_of end.Slow = None
cut_of end.Refused = None
cut_of end.Proto = None

-- one message of a job, in the world of its root
abbrev pub talk_of : BoardView → Now → Job → ℕ → End → TalkTold World
talk_of b n job left e =
    talk world_listener (block_limit b) (n.worlds (root_of b (job_bus job))) (message_of b job left) (is_last job left) (cut_of e)

abbrev pub is_on : Go → Bool
is_on On = true
is_on Last = true
is_on Over = false

-- the caller's messages have begun; they end with the last one, or with one that doesn't go through
abbrev pub inside_after : Job → ℕ → ActOutcome → ℕ → Option ℕ → Option ℕ
inside_after (Call bus messages) left out c old = if (left == 0) then None else if is_on
    (goes (Call bus messages) left out) then Some c else None
inside_after (Select h) left out c old = old
inside_after (SwitchOff off) left out c old = old

abbrev pub got_after : Job → Bool → List ℕ → List ℕ → List ℕ
got_after (Call bus messages) reading bytes got = if reading then got ++ bytes else got
got_after (Select h) reading bytes got = got
got_after (SwitchOff off) reading bytes got = got

abbrev pub sent : BoardView → Now → ℕ → Job → ℕ → Note → Bool → List ℕ → End → TalkTold World → Now
sent b n c job left note reading bytes e t =
    record n {
      slot = after_job job left note.marks (Sent e bytes) n.slot;
      worlds = changed_at n.worlds (root_of b (job_bus job)) t.now;
      calls = changed_at n.calls (root_of b (job_bus job)) (t.calls ++ n.calls (root_of b (job_bus job)));
      got = changed_at n.got c (got_after job reading bytes (n.got c));
      inside = changed_at n.inside (root_of b (job_bus job)) (inside_after job left (Sent e bytes) c (n.inside (root_of b (job_bus job))));
    }

-- a message is what the walk sends next
abbrev pub sent_by : BoardView → Now → ℕ → Option Act → Note → Bool → List ℕ → End → Now
sent_by b n c (Some (Send job left)) note reading bytes e = sent b n c job left note reading bytes e (talk_of b n job left e)
sent_by b n c None note reading bytes e = n
sent_by b n c (Some (Take l)) note reading bytes e = n
sent_by b n c (Some (Free l)) note reading bytes e = n
sent_by b n c (Some (Shift job)) note reading bytes e = n
sent_by b n c (Some (Settle verdict)) note reading bytes e = n

abbrev pub line_call : Job → Bool → PortCall
line_call job failed = if failed then call.Fault else call.Line (line_mux job) (line_level job)

abbrev pub lined : BoardView → Now → Job → Note → Bool → Now
lined b n job note failed =
    record n {
      slot = after_job job 0 note.marks (Lined failed) n.slot;
      worlds = changed_at n.worlds (root_of b (job_bus job)) (after (n.worlds (root_of b (job_bus job))) (line_call job failed));
      calls = changed_at n.calls (root_of b (job_bus job)) (line_call job failed ∷ n.calls (root_of b (job_bus job)));
    }

abbrev pub lined_by : BoardView → Now → Option Act → Note → Bool → Now
lined_by b n (Some (Shift job)) note failed = lined b n job note failed
lined_by b n None note failed = n
lined_by b n (Some (Take l)) note failed = n
lined_by b n (Some (Free l)) note failed = n
lined_by b n (Some (Send job left)) note failed = n
lined_by b n (Some (Settle verdict)) note failed = n

abbrev pub settled_by : Now → ℕ → Reply → Now
settled_by n c r =
    record n {
      settled = changed_at n.settled c (n.settled c ++ r ∷ []);
      got = changed_at n.got c [];
      due = None;
    }

-- one more entry
abbrev pub step : BoardView → Asks → Now → Entry → Now
step b asks n (entry.Take c l) = moved b asks n (taken n c l) c (entry.Take c l) Passed
step b asks n (entry.Free c l) = moved b asks n (freed n c l) c (entry.Free c l) Passed
step b asks n (entry.Line c mux level failed) =
    with_due c (moved b asks n
    (lined_by b n (first_act (current b asks n c)) (first_note (current b asks n c)) failed)
    c (entry.Line c mux level failed) (Lined failed))
step b asks n (entry.Settle c r cut_at) = moved b asks n (settled_by n c r) c (entry.Settle c r cut_at) Passed
step b asks n e =
    of_message n (λ m. with_due m.caller (moved b asks n
    (sent_by b n m.caller (first_act (current b asks n m.caller)) (first_note (current b asks n m.caller)) m.reading m.bytes m.end)
    m.caller e (Sent m.end m.bytes))) e

-- where everything stands after a past
abbrev pub now : BoardView → Asks → List Entry → Now
now b asks [] = opening b
now b asks (e ∷ past) = step b asks (now b asks past) e

-- the mark of the muxes on a bus
abbrev pub mark : BoardView → Asks → List Entry → ℕ → Option ℕ
mark b asks past p = mark_in ((now b asks past).slot p).slot

-- the channel that a mux keeps
abbrev pub kept_channel : BoardView → Asks → List Entry → ℕ → Option ℕ
kept_channel b asks past m = ((now b asks past).slot (home_of_mux b m)).kept m

-- the world of a root, and the calls of its port, in order
abbrev pub world_at : BoardView → Asks → List Entry → ℕ → World
world_at b asks past r = (now b asks past).worlds r

abbrev pub calls_of : BoardView → Asks → List Entry → ℕ → List PortCall
calls_of b asks past r = reverse ((now b asks past).calls r)

-- A message of the caller at a place: it may be sent, heard and settled.
use Rattle.bus_core.proofs.Cited.{◌≡◌, ◌⊎◌, ℕ, suc, ◌+◌, ◌<◌, ◌≤◌, Bool, true, false, List, [], ◌∷◌, length, get_or, set, Option, Some}
use Rattle.bus_core.proofs.Cited.{refl, sym, ◌∙◌, ap, subst, arith, inl, inr, slice_get, ltb-true, length-set, map-set, Purpose, LockId}
use Rattle.bus_core.proofs.Cited.{BoardView, IsTransfer, MessageView, bytes_most, buses, root_of, is_over, first_note, seen, FitsReads, Job}
use Rattle.bus_core.proofs.Cited.{Call, Select, SwitchOff, Send, Settle, job_purpose, IsJobOf, root_port, root_ports, RootPort, MsgResult}
use Rattle.bus_core.proofs.Cited.{call-through, socket-here, tells-after, on-after, MuxUpdate, MayMark, SeenView, slots_of, LocksView}
use Rattle.bus_core.proofs.Cited.{holder_in, IsLockIn, has_reply, NextMsg, IsMessageOf, CursorView, seen_of, WantsIn}
use Rattle.bus_core.proofs.Cited.{next_of, AreMarked, lone_act, not_over, locks-here, owes-here, stands-here, kept-after}
use Rattle.bus_core.proofs.Cited.{length-applied_kept, held-wants, roots_of, IsSeated, IsKept, HasMessage}
use Rattle.bus_core.proofs.Cited.{AreHeld, words_after, walk_left, got_by, Decided, HasSpoken, updates_of, CoreInside, Seat}
use Rattle.bus_core.proofs.Cited.{map_from, map_at}
use Rattle.std.proofs.Common.{take}
use Rattle.std.specs.Prelude.{nat_lt, ◌&&◌}
use Rattle.std.specs.List.{AllByRecursion}
use Rattle.std.proofs.lemmas.Bool.{lt-ltb, and_parts}
use Rattle.i2c_base.specs.declared.caller.Caller.{Ghosts as CallerGhosts}
use Rattle.i2c_base.specs.declared.entry.End.TheVariants as end
use Rattle.i2c_base.specs.declared.entry.Purpose.TheVariants as purpose
use Rattle.i2c_base.specs.declared.ids.LockId.TheVariants as lock
use Rattle.i2c_base.specs.declared.port.Phase.TheVariants.{Idle}
use Rattle.i2c_base.specs.Limits.{MOST_CALLS}
use Rattle.ports.specs.declared.port.Port.{Ghosts as PortGhosts}
use Rattle.i2c_spec.specs.Flat.{block_limit}
use Rattle.i2c_spec.specs.Messages.{messages_of}
use Rattle.bus_spec.specs.Walk.{off_bus, off_mux, Mark, part_of}
use Rattle.bus_spec.specs.Walk as walk
use Rattle.bus_laws.specs.Holds.{MarksHeld, OwnHeld}
use Rattle.bus_laws.specs.Runs.{IsCall, InLocks}
use Rattle.i2c_spec.proofs.MessageLemmas.{length-messages, is_it-some, is_it-at}
use Rattle.mux_plan.specs.Marks.{applied, IsSwitchedOn, AreOn}
use Rattle.core_laws.specs.Core.{IsSent, IsGoing}
use Rattle.core_laws.specs.Owed.{message_most}
use Rattle.bus_message.specs.Sends.{NextSent, message_for}
use Rattle.core_laws.specs.Steps.{KeepsPort}
use Rattle.core_laws.proofs.Core.{going-on}
use Rattle.core_laws.proofs.CoreSteps.{none_owed}
use Rattle.core_laws.proofs.Laws.{send-root, send-most, send-last, send-wants, call-wants, port-start, log-message, bytes-message}
use Rattle.bus_core.proofs.SeatLemmas.{read_comes}
use Rattle.bus_core.specs.Seats.{MaySpeak, MayHear}
use Rattle.bus_core.proofs.Kept.{standing, seated-here}
use Rattle.bus_core.proofs.ReadsRoom.{reads-room}
use Rattle.bus_core.proofs.Heard.{undecided}
use Rattle.i2c_spec.specs.Conversation.{is_it}
use Rattle.i2c_spec.proofs.BlockLemmas.{is_block_limit}

pub length-applied : (ds : List MuxUpdate) (marks : List (Option ℕ)) → length (applied ds marks) ≡ length marks
length-applied [] marks = refl
length-applied (d ∷ ds) marks = length-applied ds (set marks d.on d.mark) ∙ length-set marks d.on d.mark

-- the lock of the muxes on a bus is there, and this caller has it
abbrev pub holds_mux : LocksView → ℕ → ℕ → Bool
holds_mux v c on = nat_lt on (length v.depths) && is_it (holder_in v (lock.Mux on)) c

mux-held : (v : LocksView) (c on : ℕ) → IsLockIn v (lock.Mux on) → holder_in v (lock.Mux on) ≡ Some c → holds_mux v c on ≡ true
mux-held v c on low held =
    ap (λ (x : Bool). x && is_it (holder_in v (lock.Mux on)) c) (lt-ltb on (length v.depths) low)
    ∙ is_it-at (holder_in v (lock.Mux on)) c held

pub updates-held : (v : LocksView) (c : ℕ) (ds : List MuxUpdate) → AreOn (holds_mux v c) ds → AreHeld v c ds
updates-held v c [] all = tt
updates-held v c (d ∷ ds) all = (
  let b = and_parts (nat_lt d.on (length v.depths)) (is_it (holder_in v (lock.Mux d.on)) c) all.0 in
      record { there = ltb-true d.on (length v.depths) b.0; held = is_it-some (holder_in v (lock.Mux d.on)) c b.1 },
  updates-held v c ds all.1,
)

-- each mark that a step may change is of a bus whose lock is among these
module _ (v : LocksView) (c : ℕ) (ls : List LockId) (own : (l : LockId) → InLocks l ls → IsLockIn v l × (holder_in v l ≡ Some c)) where
  on-held : (on : ℕ) → InLocks (lock.Mux on) ls → holds_mux v c on ≡ true
  on-held on among = (let o = own (lock.Mux on) among in mux-held v c on o.0 o.1)

  pub marks-on : (b : BoardView) (ms : List Mark) → MarksHeld b ms ls → AllByRecursion (λ (m : Mark). holds_mux v c m.on ≡ true) ms
  marks-on b [] all = tt
  marks-on b (m ∷ ms) all = (on-held m.on all.0.0, marks-on b ms all.1)

  pub switched-on : (b : BoardView) (job : Job) → OwnHeld b job ls → IsSwitchedOn (holds_mux v c) job
  switched-on b (Call bus ms) h = tt
  switched-on b (Select h) own = on-held h.on own.0
  switched-on b (SwitchOff off) own = on-held (off_bus off) own.0

-- a message of the caller's own is one of a call
is_call : (job : Job) → job_purpose job ≡ purpose.Call → (bus : ℕ) × (ms : List MessageView) × (job ≡ Call bus ms)
is_call (Call bus ms) e = (bus, ms, refl)
is_call (Select h) e = absurd (let f : purpose.Control h.mux ≡ purpose.Call = e in cc)
is_call (SwitchOff off) e = absurd (let f : purpose.Control (off_mux off) ≡ purpose.Call = e in cc)

part_low : (sent more : ℕ) (j : Job) → ((bus : ℕ) (ms : List MessageView) → j ≡ Call bus ms → sent + suc more ≡ length ms)
    → 0 < part_of j more
part_low sent more (Call bus ms) w = (let sum : sent + suc more ≡ length ms = w bus ms refl in omega (arith, sum))
part_low sent more (Select h) w = omega arith
part_low sent more (SwitchOff off) w = omega arith

-- THE PORT of the root of a job that comes next
module _ {P C S : Type 0} (g : PortGhosts P) (c : CallerGhosts C S) (x : CoreInside P C) (kept : IsKept g c x) (place : ℕ) (s : Seat C)
    (here : slice_get x.seats.items place ≡ Some s) (goes : is_over (walk_left s) ≡ false) (low : s.transfer.bus < buses x.board) where
  pub port : (y : RootPort) × (slice_get (root_ports g x.ports.items) s.port ≡ Some y) × (y.root ≡ root_of x.board s.transfer.bus)
  port =
      let plugged = (seated-here g c x kept place s here).plugged goes low in
      let f = map_from (λ (q : ℕ × P). q.0) x.ports.items s.port (root_of x.board s.transfer.bus) plugged in
      (root_port g f.0, map_at (root_port g) x.ports.items s.port f.0 f.1, f.2)

-- THE MESSAGE that comes next of the seat at a place
pub record ComesNext {P C : Type 0} (x : CoreInside P C) (place : ℕ) (next : NextMsg) (s : Seat C) : Type 0 where
  pub job : Job
  pub more : ℕ
  pub here : slice_get x.seats.items place ≡ Some s
  pub first : next_of x.locks (walk_left s) ≡ Some (Send job more)
  pub of : IsMessageOf job more next

pub comes-next : {P C : Type 0} {x : CoreInside P C} {place : ℕ} {next : NextMsg} {s : Seat C} → HasMessage x place next
    → s ≡ get_or x.seats.items place s → ComesNext x place next s
comes-next {x = x} {place = place} {s = s} need read =
    let comes = read_comes x place (Send need.job need.left) need.comes s read in
    record { job = need.job; more = need.left; here = comes.0; first = comes.1; of = need.of }

module _ {P C S : Type 0} {g : PortGhosts P} {c : CallerGhosts C S} {x : CoreInside P C} {place : ℕ} {next : NextMsg} {s : Seat C}
    (kept : IsKept g c x) (m : ComesNext x place next s) where
  open m use {job, more, here, first, of}
  open standing g c x kept place s here use {run, whole, p, at}

  its : IsSeated c x.board (roots_of x.ports.items) s
  its = seated-here g c x kept place s here

  pub goes : is_over (walk_left s) ≡ false
  goes = not_over (slots_of (seen_of x.locks)) (walk_left s) (Send job more) first

  pub on-bus : s.transfer.bus < buses x.board
  on-bus = elim (its.there goes) [
    | inl low ↦ low
    | inr lone ↦ absurd (let l = lone_act x.board (slots_of (seen_of x.locks)) (walk_left s) lone (Send job more) first in
        let f : Send job more ≡ Settle l.0 = l.1 in cc)
  ]

  job-of : IsJobOf x.board s.transfer job
  job-of = send-root run whole kept.kept place p at job more first

  pub calls : (bus : ℕ) (ms : List MessageView) → job ≡ Call bus ms
      → (has_reply p.owed ≡ false) × IsCall x.board s.transfer bus ms × (s.sent + suc more ≡ length ms)
  calls bus ms is = call-wants run whole kept.kept place p at bus ms more
      (subst (λ (j : Job). next_of x.locks (walk_left s) ≡ Some (Send j more)) is first)

  pub call-left : next.purpose ≡ purpose.Call → (has_reply p.owed ≡ false) × (s.sent < length s.transfer.msgs)
  call-left e =
      let j = is_call job (sym of.for_purpose ∙ e) in
      let w = calls j.0 j.1 j.2 in
      let same : length j.1 ≡ length (messages_of s.transfer) = ap length w.1.same_messages in
      let count : length (messages_of s.transfer) ≡ length s.transfer.msgs = length-messages s.transfer.msgs s.transfer.out in
      let sum : s.sent + suc more ≡ length j.1 = w.2 in
      (w.0, omega (arith, same, count, sum))

  most : (addr : ℕ)
      → bytes_most (block_limit x.board) (message_for s.transfer s.sent next.purpose next.control addr) ≡ message_most x.board job more
  most addr = send-most run whole kept.kept place p at job more first next of addr

  pub may-speak : MaySpeak x.board g.tells next (root_ports g x.ports.items) s
  may-speak =
      let y = port g c x kept place s here goes on-bus in
      record {
        socket = y.0;
        here = y.1;
        may = record {
          start = port-start run whole kept.kept s.port y.0 y.1;
          room = λ addr tell.
              let room : length y.0.log + (message_most x.board job more + 2) ≤ MOST_CALLS =
              log-message run whole kept.kept place p at job more first tell s.port y.0 y.1 in
              let same = most addr in
              omega (arith, room, same);
        };
        call = record { on_bus = λ e. on-bus; more = λ e. (call-left e).1 };
        wrote = its.wrote;
      }

  -- IT WAS SENT
  module _ {sockets2 : List RootPort} {bytes : List ℕ} {sent : MsgResult}
      (spoken : HasSpoken x.board g.tells next (root_ports g x.ports.items) sockets2 bytes sent s) where
    pub few : length bytes ≤ message_most x.board job more
    few = subst (λ (n : ℕ). length bytes ≤ n) (most sent.addr) spoken.sent.spoke.few

    pub message-bytes : length bytes ≤ x.journal.room_bytes
    message-bytes = bytes-message run whole kept.kept place p at job more first bytes few

    abbrev pub words2 : SeenView
    words2 = words_after (updates_of x.locks (walk.Sent sent.end bytes) s) (seen_of x.locks)

    keeps : KeepsPort x.board g.tells job more bytes sent.end spoken.before spoken.after
    keeps =
        let y = port g c x kept place s here goes on-bus in
        let same : spoken.before ≡ y.0 = (let f : Some spoken.before ≡ Some y.0 = sym spoken.here ∙ y.1 in cc) in
        record {
          rooted = ap (λ (z : RootPort). z.root) same ∙ y.2 ∙ sym job-of.rooted;
          root = spoken.sent.spoke.root;
          start = spoken.sent.spoke.start;
          idle = subst (λ (l : Bool). (spoken.after.phase ≡ Idle) ⊎ ((l ≡ false) × (sent.end ≡ end.Ok)))
              (send-last run whole kept.kept place p at job more first next of) spoken.sent.spoke.idle;
          few = few;
          grows = λ tell. subst (λ (n : ℕ). length spoken.after.log ≤ length spoken.before.log + (n + 2)) (most sent.addr)
              (spoken.sent.spoke.grows tell);
        }

    marked : AreMarked x.board p.tree x.locks (walk.Sent sent.end bytes) words2
    marked = record {
      all = length-applied (updates_of x.locks (walk.Sent sent.end bytes) s) x.locks.marks ∙ kept.kept.table.marked;
      counted = length-applied_kept (updates_of x.locks (walk.Sent sent.end bytes) s) x.locks.kept ∙ kept.kept.table.kept;
      marked = λ y told. tells-after (next_of x.locks p.tree) (first_note (seen (slots_of (seen_of x.locks)) p.tree))
          (walk.Sent sent.end bytes) y x.locks.marks told;
      kept = λ y told.
          kept-after x.board (locks-here run whole kept.kept place p at).0 (next_of x.locks p.tree)
          (first_note (seen (slots_of (seen_of x.locks)) p.tree)) (walk.Sent sent.end bytes)
          (subst (λ (o : Option _). WantsIn x.board (locks-here run whole kept.kept place p at).0 o
          (first_note (seen (slots_of (seen_of x.locks)) p.tree))) (sym first)
          (send-wants run whole kept.kept place p at job more first))
          y x.locks.kept kept.kept.table.kept told;
    }

    pub is-sent : IsSent run whole p job more next s.port spoken.before spoken.after bytes sent words2
    is-sent = record {
      first = first;
      of = of;
      port = spoken.here;
      keeps = keeps;
      gives = record { direction = spoken.sent.reading; gives = spoken.sent.gives };
      shows = λ tell. record { to_addr = spoken.sent.addr; chip = spoken.sent.chip; has = spoken.sent.has tell };
      marked = marked;
    }

    -- the marks that it changes may be written
    pub updates-own : AreHeld x.locks s.number (updates_of x.locks (walk.Sent sent.end bytes) s)
    updates-own =
        let own = locks-here run whole kept.kept place p at in
        let has = held-wants run whole kept.kept place p at own.0 own.1 in
        let sends = send-wants run whole kept.kept place p at job more first in
        updates-held x.locks s.number (updates_of x.locks (walk.Sent sent.end bytes) s)
        (on-after (holds_mux x.locks s.number) (next_of x.locks p.tree) (first_note (seen (slots_of (seen_of x.locks)) p.tree))
        (walk.Sent sent.end bytes)
        (subst (λ (o : Option _). MayMark (holds_mux x.locks s.number) o (first_note (seen (slots_of (seen_of x.locks)) p.tree)))
        (sym first) (
          switched-on x.locks s.number own.0 has x.board job sends.own,
          marks-on x.locks s.number own.0 has x.board
              (first_note (seen (slots_of (seen_of x.locks)) p.tree)).marks sends.marked,
        )))

    -- what it read has room
    partway : has_reply p.owed ≡ false → FitsReads (take s.sent s.transfer.msgs) s.replies.got
    partway unsettled =
        let n = (owes-here run whole kept.kept place p at).0 in
        let goes-on : IsGoing run p n = going-on run whole kept.kept place p _ n (stands-here run whole kept.kept place p at)
        (Send job more) first in
        subst (λ (ys : List ℕ). FitsReads (take s.sent s.transfer.msgs) ys)
        (ap (λ (o : Option Decided). got_by o s.replies) (undecided s.decided s.replies unsettled))
        (goes-on.partway (none_owed p.owed unsettled))

    pub may-hear : MayHear next bytes sent s
    may-hear = record {
      wrote = its.wrote;
      part = subst (λ (n : ℕ). 0 < n) (sym of.as_part) (part_low s.sent more job (λ bus ms is. (calls bus ms is).2));
      more = λ through. (call-left (call-through next.purpose sent.end through).0).1;
      room = λ call reads.
          reads-room s.transfer s.sent (block_limit x.board) s.replies.got bytes (spoken.whole call) (call-left call).1
          (is_block_limit x.board).few (partway (call-left call).0)
          (subst (λ (y : Purpose). length bytes ≤ bytes_most (block_limit x.board) (message_for s.transfer s.sent y next.control sent.addr))
          call spoken.sent.spoke.few);
    }

  -- what was sent on the port that was read at the place of the seat's root, by what it left of it
  pub said-on : {q : ℕ × P} → q ≡ get_or x.ports.items s.port q
      → {k : CursorView} → k ≡ record { transfer = s.transfer; sent = s.sent; written = s.written; grant = k.grant }
      → (now : P) → {sent bytes : List ℕ} → bytes ≡ sent
      → {r : MsgResult} → NextSent x.board g.tells k.transfer k.sent next (root_port g q) (root_port g (q.0, now)) sent r
      → (next.purpose ≡ purpose.Call → IsTransfer s.transfer.msgs s.transfer.out)
      → HasSpoken x.board g.tells next (root_ports g x.ports.items) (root_ports g (set x.ports.items s.port (q.0, now))) bytes r s
  said-on {q} read {k} is now {sent} {bytes} same {r} was whole = record {
    before = root_port g q;
    after = root_port g (q.0, now);
    here = socket-here g x.ports.items s.port q read may-speak.socket may-speak.here;
    set_is = map-set (root_port g) x.ports.items s.port (q.0, now);
    sent = subst (λ (ys : List ℕ). NextSent x.board g.tells s.transfer s.sent next (root_port g q) (root_port g (q.0, now)) ys r) (sym same)
        (subst (λ (v : CursorView). NextSent x.board g.tells v.transfer v.sent next (root_port g q) (root_port g (q.0, now)) sent r) is
        was);
    whole = whole;
  }

use Rattle.bus_core.proofs.Cited.{◌≡◌, ◌≤◌, ◌<◌, ◌+◌, ◌++◌, [], ◌∷◌, ℕ, List, length, set, refl, sym, ◌∙◌, ap, subst, arith, length-map}
use Rattle.bus_core.proofs.Cited.{slice_get_within, MOST_CALLERS, Entry, CursorView, RootPort, root_port, root_ports, socket-is, MuxUpdate}
use Rattle.bus_core.proofs.Cited.{Send, LocksView, AreHeld, MaySettle, updates_of, HasSpoken, HasHeard, Seat}
use Rattle.bus_message.specs.Sends.{MaySend}
use Rattle.core_laws.specs.Behind.{message_entry}
use Rattle.bus_spec.specs.Walk as walk
use Rattle.bus_core.proofs.Kept.{number-small}
use Rattle.bus_core.proofs.Locks.{room-here}
use Rattle.bus_core.proofs.Looking.{still-on, updates-looked, heard-looked, looked-turned, turned, turned-by}
use Rattle.bus_core.proofs.Converse.{ComesNext, comes-next, said-on, may-speak, may-hear, message-bytes, updates-own}
use Rattle.bus_core.proofs.Conversed.{may-settle, conversed}
use Rattle.bus_core.proofs.steps.send_and_record.Given.{Over}
use Rattle.bus_core.proofs.steps.send_and_record.Goals.{After-as_slice-bytes, After-look}
use Rattle.bus_core.proofs.steps.send_and_record.Goals as goal

-- what was sent, by what the port of the seat's root gave
said : (g : Over) (c : After-as_slice-bytes g)
    → HasSpoken c.args.parts.now.board g.P.Port.tells c.args.next.now (root_ports g.P.Port c.args.parts.now.ports.items)
    (root_ports g.P.Port (set c.args.parts.now.ports.items c.index_mut-seat.result.now.port
    (c.index_mut.result.now.0, c.send_next-msg.new.port)))
    c.as_slice-bytes.result.now c.send_next-msg.result c.index_mut-seat.result.now
said g c =
    said-on c.requires.rests.kept (comes-next c.requires.next c.index_mut-seat.ensures.value) c.index_mut.ensures.value
    c.cursor-cursor.ensures.value c.send_next-msg.new.port c.as_slice-bytes.ensures.value
    (c.send_next-msg.ensures c.index_mut.result.now.0) c.cursor-cursor.ensures.whole

-- the seat after its look, and the locks and the journal then
module _ (g : Over) (c : After-look g) where
  next : ComesNext c.args.parts.now c.args.place c.args.next.now c.index_mut-seat.result.now
  next = comes-next c.requires.next c.index_mut-seat.ensures.value

  heard : HasHeard c.args.parts.now.locks c.args.next.now c.as_slice-bytes.result.now c.send_next-msg.result c.index_mut-seat.result.now
      c.look.new.self
  heard = heard-looked c.args.parts.now.locks c.args.next.now c.as_slice-bytes.result.now c.send_next-msg.result
      c.index_mut-seat.result.now c.message_done.new.self c.look.new.self
      (c.message_done.ensures.heard c.args.parts.now.locks
      (c.requires.rests.looked c.args.place c.index_mut-seat.result.now next.here))
      c.look.ensures.same c.look.ensures.walk c.look.ensures.route

  locks : c.set_marks.new.locks
      ≡ turned c.args.parts.now.locks (walk.Sent c.send_next-msg.result.end c.as_slice-bytes.result.now) c.index_mut-seat.result.now
  locks = turned-by c.args.parts.now.locks c.index_mut-seat.result.now
      (walk.Sent c.send_next-msg.result.end c.as_slice-bytes.result.now)
      (c.requires.rests.looked c.args.place c.index_mut-seat.result.now next.here) c.set_marks.ensures
      (c.as_slice.ensures.value ∙ c.message_done.ensures.updates)

  entries : c.push.new.self.entries
      ≡ c.args.parts.now.journal.entries
      ++ message_entry c.index_mut-seat.result.now.number c.args.next.now c.as_slice-bytes.result.now c.send_next-msg.result ∷ []
  entries = c.push.ensures.entries ∙ ap (λ (e : Entry). c.args.parts.now.journal.entries ++ e ∷ []) c.message_entry.ensures.seen

  room_bytes : c.push.new.self.room_bytes + length c.as_slice-bytes.result.now ≡ c.args.parts.now.journal.room_bytes
  room_bytes = ap (λ (ys : List ℕ). c.push.new.self.room_bytes + length ys) (sym c.message_entry.ensures.bytes)
      ∙ c.push.ensures.room_bytes

pub cursor-cursor-requires : goal.cursor-cursor-requires
cursor-cursor-requires g c =
    let speak = may-speak c.requires.rests.kept (comes-next c.requires.next c.index_mut-seat.ensures.value) in
    record { call = speak.call; wrote = speak.wrote }

pub index_mut-requires : goal.index_mut-requires
index_mut-requires g c =
    let x = c.args.parts.now in
    let speak = may-speak c.requires.rests.kept (comes-next c.requires.next c.index_mut-seat.ensures.value) in
    omega (
      arith,
      slice_get_within (root_ports g.P.Port x.ports.items) c.index_mut-seat.result.now.port speak.socket speak.here,
      length-map x.ports.items
          (root_port g.P.Port),
    )

pub send_next-msg-requires-clause-may : goal.send_next-msg-requires-clause-may
send_next-msg-requires-clause-may g c κs within root =
    let x = c.args.parts.now in
    let old = c.index_mut-seat.result.now in
    let speak = may-speak c.requires.rests.kept (comes-next c.requires.next c.index_mut-seat.ensures.value) in
    let q = c.index_mut.result.now in
    let at : speak.socket ≡ root_port g.P.Port q =
    socket-is g.P.Port x.ports.items old.port q c.index_mut.ensures.value speak.socket speak.here in
    let may = subst (λ (y : RootPort). MaySend x.board g.P.Port.tells old.transfer old.sent c.args.next.now y) at speak.may in
    subst (λ (k : CursorView). MaySend x.board g.P.Port.tells k.transfer k.sent c.args.next.now (root_port g.P.Port (root, q.1)))
    (sym c.cursor-cursor.ensures.value)
    (record { start = may.start; room = may.room })

pub push-requires-clause-room : goal.push-requires-clause-room
push-requires-clause-room g c = room-here c.requires.rests.kept c.requires.next.comes

pub push-requires-clause-room_bytes : goal.push-requires-clause-room_bytes
push-requires-clause-room_bytes g c =
    subst (λ (ys : List ℕ). length ys ≤ c.args.parts.now.journal.room_bytes) (sym c.message_entry.ensures.bytes)
    (message-bytes c.requires.rests.kept (comes-next c.requires.next c.index_mut-seat.ensures.value)
    (said g (goal.at.push-requires-clause-room_bytes g c).After-as_slice-bytes))

pub message_done-requires : goal.message_done-requires
message_done-requires g c =
    let m = comes-next c.requires.next c.index_mut-seat.ensures.value in
    record {
      hears = may-hear c.requires.rests.kept m (said g (goal.at.message_done-requires g c).After-as_slice-bytes);
      step = (c.requires.rests.looked c.args.place c.index_mut-seat.result.now m.here).step;
    }

pub set_marks-requires : goal.set_marks-requires
set_marks-requires g c =
    let x = c.args.parts.now in
    let old = c.index_mut-seat.result.now in
    let m = comes-next c.requires.next c.index_mut-seat.ensures.value in
    let looked = c.requires.rests.looked c.args.place old m.here in
    let number : c.message_done.new.self.number ≡ old.number =
    ap (λ (y : Seat _). y.number) (c.message_done.ensures.heard x.locks looked).same in
    let updates : c.as_slice.result.now ≡ updates_of x.locks (walk.Sent c.send_next-msg.result.end c.as_slice-bytes.result.now) old =
    c.as_slice.ensures.value ∙ c.message_done.ensures.updates
    ∙ updates-looked x.locks old (walk.Sent c.send_next-msg.result.end c.as_slice-bytes.result.now) looked in
    record {
      caller = subst (λ (n : ℕ). n < MOST_CALLERS) (sym number)
          (number-small g.P.Port g.C.Caller x c.requires.rests.kept c.args.place old m.here);
      held = subst (λ (n : ℕ). AreHeld x.locks n c.as_slice.result.now) (sym number)
          (subst (λ (ds : List MuxUpdate). AreHeld x.locks old.number ds) (sym updates)
          (updates-own c.requires.rests.kept m (said g (goal.at.set_marks-requires g c).After-as_slice-bytes)));
    }

pub look-requires : goal.look-requires
look-requires g c =
    let m = comes-next c.requires.next c.index_mut-seat.ensures.value in
    let looked = c.requires.rests.looked c.args.place c.index_mut-seat.result.now m.here in
    record {
      fresh = c.message_done.ensures.fresh;
      on = still-on c.requires.rests.kept c.args.place m.here c.message_done.new.self
          (c.message_done.ensures.heard c.args.parts.now.locks looked).route;
    }

pub settle-requires : goal.settle-requires
settle-requires g c =
    let a = (goal.at.settle-requires g c).After-look in
    record {
      may = subst (λ (v : LocksView). MaySettle v c.push.new.self c.look.new.self) (sym (locks g a))
          (may-settle c.requires.rests.kept (next g a) (said g (goal.at.settle-requires g c).After-as_slice-bytes) (heard g a)
          c.push.new.self (entries g a) c.push.ensures.room (room_bytes g a));
      on = still-on c.requires.rests.kept c.args.place (next g a).here c.look.new.self (heard g a).route;
      looked = c.look.ensures.looked;
    }

pub returns : goal.returns
returns g c =
    let x = c.args.parts.now in
    let old = c.index_mut-seat.result.now in
    let a = (goal.at.returns g c).After-look in
    let m = next g a in
    let all = conversed c.requires.rests.kept m (said g (goal.at.returns g c).After-as_slice-bytes) (heard g a)
    c.push.new.self (entries g a) c.push.ensures.room (room_bytes g a)
    (record x {
      ports = _;
      seats = _;
      locks = c.set_marks.new.locks;
      journal = c.settle.new.journal;
      bytes = c.send_next-msg.new.bytes;
      updates = c.message_done.new.updates;
    }) refl (locks g a) refl refl refl
    c.settle.new.self refl c.settle.result c.settle.ensures.settled c.settle.ensures.none c.settle.ensures.stays in
    record {
      rests = record {
        kept = all.0;
        looked = looked-turned g.P.Port g.C.Caller x c.requires.rests.kept c.args.place old m.here (Send m.job m.more) m.first
            (walk.Sent c.send_next-msg.result.end c.as_slice-bytes.result.now) c.set_marks.new.locks (locks g a) c.settle.new.self
            c.requires.rests.looked c.settle.ensures.looked;
      };
      stepped = all.1;
    }

use Rattle.bus_core.proofs.Cited.{◌≡◌, sym, refl, ◌∙◌, subst, arith, List, length-map, map-set, slice_get_within}
use Rattle.bus_core.proofs.Cited.{RootPort, MayShift, root_port, root_ports, socket-here, socket-is, MuxUpdate, Lined, Shift}
use Rattle.bus_core.proofs.Cited.{LocksView, AreHeld, MaySettle, WentOn, cut_of_line, updates_of}
use Rattle.bus_core.proofs.Kept.{number-small}
use Rattle.bus_core.proofs.Locks.{room-here}
use Rattle.bus_core.proofs.Looking.{looked-turned, turned, turned-by, still-on, updates-looked, went-looked}
use Rattle.bus_core.proofs.Switch.{ComesShift, shift-next, may-shift, line-updates-own, line-may-settle, line-done, plug}
use Rattle.bus_core.proofs.steps.switch.Given.{Over}
use Rattle.bus_core.proofs.steps.switch.Goals.{After-look}
use Rattle.bus_core.proofs.steps.switch.Goals as goal

-- the seat after its look, and the locks then
module _ (g : Over) (c : After-look g) where
  next : ComesShift c.args.parts.now c.args.place c.args.mux c.args.level c.index_mut-seat.result.now
  next = shift-next c.requires.next c.index_mut-seat.ensures.value

  went : WentOn c.args.parts.now.locks (Lined c.shift_line-failed.result) (cut_of_line c.shift_line-failed.result)
      c.index_mut-seat.result.now c.look.new.self
  went = went-looked c.args.parts.now.locks (Lined c.shift_line-failed.result) (cut_of_line c.shift_line-failed.result)
      c.index_mut-seat.result.now c.line_done.new.self c.look.new.self
      (c.line_done.ensures.went c.args.parts.now.locks (c.requires.rests.looked c.args.place c.index_mut-seat.result.now next.here))
      c.look.ensures.same c.look.ensures.walk c.look.ensures.route

  locks : c.set_marks.new.locks ≡ turned c.args.parts.now.locks (Lined c.shift_line-failed.result) c.index_mut-seat.result.now
  locks = turned-by c.args.parts.now.locks c.index_mut-seat.result.now (Lined c.shift_line-failed.result)
      (c.requires.rests.looked c.args.place c.index_mut-seat.result.now next.here) c.set_marks.ensures
      (c.as_slice.ensures.value ∙ c.line_done.ensures.updates)

pub index_mut-requires : goal.index_mut-requires
index_mut-requires g c =
    let x = c.args.parts.now in
    let plugged = plug c.requires.rests.kept (shift-next c.requires.next c.index_mut-seat.ensures.value) in
    omega (
      arith,
      slice_get_within (root_ports g.P.Port x.ports.items) c.index_mut-seat.result.now.port plugged.0 plugged.1,
      length-map x.ports.items
          (root_port g.P.Port),
    )

pub shift_line-failed-requires-after_bounds : goal.shift_line-failed-requires-after_bounds
shift_line-failed-requires-after_bounds g c κs within root =
    let x = c.args.parts.now in
    let old = c.index_mut-seat.result.now in
    let m = shift-next c.requires.next c.index_mut-seat.ensures.value in
    let plugged = plug c.requires.rests.kept m in
    let q = c.index_mut.result.now in
    let at : plugged.0 ≡ root_port g.P.Port q = socket-is g.P.Port x.ports.items old.port q c.index_mut.ensures.value plugged.0 plugged.1 in
    let may = subst (λ (y : RootPort). MayShift g.P.Port.tells c.args.mux c.args.level y) at (may-shift c.requires.rests.kept m) in
    record { idle = may.idle; has = may.has; room = may.room }

pub push-requires-clause-room : goal.push-requires-clause-room
push-requires-clause-room g c = room-here c.requires.rests.kept c.requires.next.comes

pub line_done-requires : goal.line_done-requires
line_done-requires g c =
    let m = shift-next c.requires.next c.index_mut-seat.ensures.value in
    (c.requires.rests.looked c.args.place c.index_mut-seat.result.now m.here).step

pub look-requires : goal.look-requires
look-requires g c =
    let m = shift-next c.requires.next c.index_mut-seat.ensures.value in
    let went = c.line_done.ensures.went c.args.parts.now.locks
    (c.requires.rests.looked c.args.place c.index_mut-seat.result.now m.here) in
    record {
      fresh = c.line_done.ensures.fresh;
      on = still-on c.requires.rests.kept c.args.place m.here c.line_done.new.self went.route;
    }

pub set_marks-requires : goal.set_marks-requires
set_marks-requires g c =
    let x = c.args.parts.now in
    let old = c.index_mut-seat.result.now in
    let failed = c.shift_line-failed.result in
    let m = shift-next c.requires.next c.index_mut-seat.ensures.value in
    let updates : c.as_slice.result.now ≡ updates_of x.locks (Lined failed) old = c.as_slice.ensures.value
    ∙ c.line_done.ensures.updates ∙ updates-looked x.locks old (Lined failed) (c.requires.rests.looked c.args.place old m.here) in
    record {
      caller = number-small g.P.Port g.C.Caller x c.requires.rests.kept c.args.place old m.here;
      held = subst (λ (ds : List MuxUpdate). AreHeld x.locks old.number ds) (sym updates)
          (line-updates-own c.requires.rests.kept m failed);
    }

pub settle-requires : goal.settle-requires
settle-requires g c =
    let a = (goal.at.settle-requires g c).After-look in
    record {
      may = subst (λ (v : LocksView). MaySettle v c.push.new.self c.look.new.self) (sym (locks g a))
          (line-may-settle c.requires.rests.kept (next g a) c.shift_line-failed.result (went g a) c.push.new.self c.push.ensures.entries
          c.push.ensures.room c.push.ensures.room_bytes);
      on = still-on c.requires.rests.kept c.args.place (next g a).here c.look.new.self (went g a).route;
      looked = c.look.ensures.looked;
    }

pub returns : goal.returns
returns g c =
    let x = c.args.parts.now in
    let old = c.index_mut-seat.result.now in
    let failed = c.shift_line-failed.result in
    let a = (goal.at.returns g c).After-look in
    let m = next g a in
    let plugged = plug c.requires.rests.kept m in
    let q = c.index_mut.result.now in
    let all = line-done c.requires.rests.kept m failed (went g a) c.push.new.self c.push.ensures.entries c.push.ensures.room
    c.push.ensures.room_bytes
    (record x { ports = _; seats = _; locks = c.set_marks.new.locks; journal = c.settle.new.journal; updates = c.line_done.new.updates })
    refl
    (locks g a) (root_port g.P.Port q) (root_port g.P.Port (q.0, c.shift_line-failed.new.port))
    (socket-here g.P.Port x.ports.items old.port q c.index_mut.ensures.value plugged.0 plugged.1)
    (map-set (root_port g.P.Port) x.ports.items old.port (q.0, c.shift_line-failed.new.port))
    (c.shift_line-failed.ensures.shifted q.0) refl refl
    c.settle.new.self refl c.settle.result c.settle.ensures.settled c.settle.ensures.none c.settle.ensures.stays in
    record {
      rests = record {
        kept = all.0;
        looked = looked-turned g.P.Port g.C.Caller x c.requires.rests.kept c.args.place old m.here (Shift m.job) m.first (Lined failed)
            c.set_marks.new.locks (locks g a) c.settle.new.self c.requires.rests.looked c.settle.ensures.looked;
      };
      stepped = all.1;
    }

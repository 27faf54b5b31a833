use Rattle.bus_core.proofs.Cited.{◌≡◌, ◌∷◌, [], ◌++◌, length, Some, sym, ◌∙◌, ap, subst, arith, bytes_given, Entry, roots_of, IsLookedAt}
use Rattle.bus_core.proofs.Cited.{reply_decided, IsOn}
use Rattle.i2c_base.specs.declared.reply.Reply.TheVariants as reply
use Rattle.bus_core.proofs.Reseating.{settled, settle_entry, may_end_refused, refused}
use Rattle.bus_core.proofs.seat.Seat.refuse.Goals as goal

pub push-requires-clause-room : goal.push-requires-clause-room
push-requires-clause-room g c = c.requires.may.room

pub push-requires-clause-room_bytes : goal.push-requires-clause-room_bytes
push-requires-clause-room_bytes g c = rw (c.settle_entry.ensures.bytes, c.decide-decided.ensures.reply) (omega arith)

pub lock_done-requires : goal.lock_done-requires
lock_done-requires g c =
    record {
      looked = subst (IsLookedAt c.args.locks.now) (sym c.decide-decided.ensures.same) c.requires.looked;
      on = subst (IsOn c.args.board.now) (sym c.decide-decided.ensures.same) c.requires.may.seated.on;
    }

pub end-requires-clause-may : goal.end-requires-clause-may
end-requires-clause-may g c κs within =
    let old = c.args.self.now in
    let d = c.decide-decided.ensures in
    let p = c.lock_done.ensures.went in
    may_end_refused g.C.Caller c.args.board.now c.args.locks.now
    (roots_of c.args.ports.now) old c.lock_done.new.self c.lock_done.new.self c.args.errno c.args.journal.now c.requires.may
    (settled c.args.locks.now old c.decide-decided.new.self c.lock_done.new.self
    (Some c.args.errno) c.decide-decided.result d.same p.same d.reply p.walk p.route)

pub returns-clause-refused : goal.returns-clause-refused
returns-clause-refused g c =
    let old = c.args.self.now in
    let d = c.decide-decided.ensures in
    let p = c.lock_done.ensures.went in
    let made = reply_decided c.decide-decided.result c.decide-decided.new.self.replies in
    let got : made ≡ reply.Err c.args.errno = d.reply in
    record {
      ended = refused g.C.Caller c.args.board.now c.args.locks.now
          (roots_of c.args.ports.now) old c.lock_done.new.self c.end.new.self c.args.errno c.args.journal.now c.requires.may
          (settled c.args.locks.now old c.decide-decided.new.self c.lock_done.new.self
          (Some c.args.errno) c.decide-decided.result d.same p.same d.reply p.walk p.route)
          c.end.ensures.ended;
      seated = c.end.ensures.seated;
      entries = c.push.ensures.entries
          ∙ ap (λ (e : Entry). c.args.journal.now.entries ++ e ∷ [])
          (c.settle_entry.ensures.seen ∙ settle_entry old c.decide-decided.new.self (Some c.decide-decided.result) made
          (reply.Err c.args.errno) d.same got);
      room = c.push.ensures.room;
      room_bytes = (let none : length c.settle_entry.result.bytes.now ≡ 0 = ap length (c.settle_entry.ensures.bytes ∙ ap bytes_given got) in
          omega (arith, none, c.push.ensures.room_bytes));
    }

pub returns-clause-looked : goal.returns-clause-looked
returns-clause-looked g c = c.end.ensures.looked c.args.locks.now c.lock_done.ensures.looked

use Rattle.bus_core.proofs.Cited.{◌≡◌, ◌+◌, true, false, List, ℕ, ◌∷◌, [], ◌++◌, length, Some, refl, sym, ◌∙◌, ap, subst, bytes_given}
use Rattle.bus_core.proofs.Cited.{Entry, reply_by, IsLookedAt, reply_decided, IsOn}
use Rattle.bus_core.proofs.Looking.{next-looked}
use Rattle.bus_core.proofs.Reseating.{settled, settle_entry}
use Rattle.bus_core.proofs.seat.Seat.settle.Goals as goal

pub returns-in_default : goal.returns-in_default
returns-in_default g c =
    record {
      settled = λ h. absurd (let f : false ≡ true = h in cc);
      none = λ h verdict is. c.settles.ensures.none verdict c.in_default.is
          (next-looked c.args.locks.now c.args.self.now c.requires.looked ∙ is);
      stays = λ h. (refl, refl);
      looked = c.requires.looked;
    }

pub push-requires-clause-room : goal.push-requires-clause-room
push-requires-clause-room g c = (c.requires.may.room c.in-Some.verdict (sym (next-looked c.args.locks.now c.args.self.now c.requires.looked)
    ∙ c.in-Some.ensures.some)).0

pub push-requires-clause-room_bytes : goal.push-requires-clause-room_bytes
push-requires-clause-room_bytes g c =
    let room = (c.requires.may.room c.in-Some.verdict (sym (next-looked c.args.locks.now c.args.self.now c.requires.looked)
    ∙ c.in-Some.ensures.some)).1 in
    rw (c.settle_entry.ensures.bytes, c.decide-decided.ensures.reply) room

pub lock_done-requires : goal.lock_done-requires
lock_done-requires g c =
    record {
      looked = subst (IsLookedAt c.args.locks.now) (sym c.decide-decided.ensures.same) c.requires.looked;
      on = subst (IsOn c.args.board.now) (sym c.decide-decided.ensures.same) c.requires.on;
    }

pub returns-clause-settled : goal.returns-clause-settled
returns-clause-settled g c =
    λ h.
    let old = c.args.self.now in
    let m = c.decide-decided.new.self in
    let d = c.decide-decided.ensures in
    let p = c.lock_done.ensures.went in
    let verdict = c.in-Some.verdict in
    let made = reply_decided c.decide-decided.result m.replies in
    let got : made ≡ reply_by verdict (Some old.transfer) old.replies.got = d.reply in (
      verdict,
      record {
        next = sym (next-looked c.args.locks.now old c.requires.looked) ∙ c.in-Some.ensures.some;
        settled = settled c.args.locks.now old m c.lock_done.new.self verdict c.decide-decided.result d.same p.same d.reply
            p.walk p.route;
        entries = c.push.ensures.entries
            ∙ ap (λ (e : Entry). c.args.journal.now.entries ++ e ∷ [])
            (c.settle_entry.ensures.seen ∙ settle_entry old m (Some c.decide-decided.result) made
            (reply_by verdict (Some old.transfer) old.replies.got) d.same got);
        room = c.push.ensures.room;
        room_bytes = ap (λ (xs : List ℕ). c.push.new.self.room_bytes + length xs) (sym (c.settle_entry.ensures.bytes ∙ ap bytes_given got))
            ∙ c.push.ensures.room_bytes;
      },
    )

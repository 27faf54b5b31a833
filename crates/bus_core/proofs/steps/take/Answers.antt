use Rattle.bus_core.proofs.Cited.{◌≡◌, [], ◌∷◌, ◌++◌, ℕ, Some, None, refl, sym, ◌∙◌, ap, subst, Passed, holder_in}
use Rattle.bus_core.proofs.Cited.{with_holder, seen_of, IsLookedAt, IsOn, WentOn, Seat}
use Rattle.i2c_base.specs.declared.entry.Entry.TheVariants as entry
use Rattle.i2c_base.specs.declared.reply.Cut.TheVariants as cut_at
use Rattle.seg_locks.specs.declared.locks.Held.{Held}
use Rattle.bus_core.proofs.Kept.{seated-here}
use Rattle.bus_core.proofs.Looking.{looked-locks, same_words}
use Rattle.bus_core.proofs.Locks.{is_given, room-here, take-asked, take-kept}
use Rattle.bus_core.proofs.SeatLemmas.{read_here}
use Rattle.bus_core.proofs.steps.take.Goals as goal

pub lock_done-requires : goal.lock_done-requires
lock_done-requires g c =
    let x = c.args.parts.now in
    let s = c.requires.next.seat in
    let is = sym (read_here x.seats.items c.args.place s c.index_mut-seat.result.now c.requires.next.here
    c.index_mut-seat.ensures.value) in
    record {
      looked = subst (IsLookedAt x.locks) is (c.requires.rests.looked c.args.place s c.requires.next.here);
      on = subst (IsOn x.board) is (seated-here g.P.Port g.C.Caller x c.requires.rests.kept c.args.place s c.requires.next.here).on;
    }

pub push-requires-clause-room : goal.push-requires-clause-room
push-requires-clause-room g c = room-here c.requires.rests.kept c.requires.next

pub take-requires : goal.take-requires
take-requires g c =
    let asked = take-asked c.requires.rests.kept c.requires.next c.lock_done.new.self.number
    (ap (λ (y : Seat _). y.number) c.lock_done.ensures.went.same
    ∙ ap (λ (y : Seat _). y.number)
    (read_here c.args.parts.now.seats.items c.args.place c.requires.next.seat c.index_mut-seat.result.now c.requires.next.here
    c.index_mut-seat.ensures.value)) in
    record { there = asked.0; caller = asked.1; below = asked.2 }

pub returns : goal.returns
returns g c =
    let x = c.args.parts.now in
    let s = c.requires.next.seat in
    let t = c.lock_done.new.self in
    let is = read_here x.seats.items c.args.place s c.index_mut-seat.result.now c.requires.next.here c.index_mut-seat.ensures.value in
    let went : WentOn x.locks Passed cut_at.No s t =
    subst (λ (y : Seat _). WentOn x.locks Passed cut_at.No y t) is
    c.lock_done.ensures.went in
    let number : t.number ≡ s.number = ap (λ (y : Seat _). y.number) went.same in
    let given : c.take.new.self ≡ with_holder x.locks c.args.lock.now (Some t.number) =
    is_given (c.take.new.self ≡ with_holder x.locks c.args.lock.now (Some t.number))
    (λ (h : Held). holder_in x.locks c.args.lock.now ≡ Some h.holder) c.take.result
    c.take.ensures.taken c.take.ensures.held (λ h is. let f : None ≡ Some h.holder = sym c.requires.free ∙ is in cc) in
    let both = take-kept c.requires.rests.kept c.requires.next c.requires.free _ t refl refl went
    (given ∙ ap (λ (n : ℕ). with_holder x.locks c.args.lock.now (Some n)) number) refl
    (c.push.ensures.entries ∙ ap (λ (n : ℕ). x.journal.entries ++ entry.Take n c.args.lock.now ∷ []) number) c.push.ensures.room
    c.push.ensures.room_bytes refl refl in
    record {
      rests = record {
        kept = both.0;
        looked = looked-locks x.locks c.take.new.self x.seats.items c.args.place t c.requires.rests.looked
            (ap seen_of given ∙ same_words x.locks c.args.lock.now (Some t.number)) c.lock_done.ensures.looked;
      };
      stepped = both.1;
    }

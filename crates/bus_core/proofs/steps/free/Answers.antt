use Rattle.bus_core.proofs.Cited.{◌≡◌, List, [], ◌∷◌, ◌++◌, ℕ, None, refl, sym, ◌∙◌, ap, subst}
use Rattle.bus_core.proofs.Cited.{roots_of, seen_of, IsLookedAt, MayEnd, HasFreed, Seat}
use Rattle.i2c_base.specs.declared.entry.Entry.TheVariants as entry
use Rattle.bus_core.proofs.Looking.{looked-locks, same_words}
use Rattle.bus_core.proofs.Locks.{room-here, free-may, free-asked, free-kept, freed-number}
use Rattle.bus_core.proofs.SeatLemmas.{read_here}
use Rattle.bus_core.proofs.steps.free.Given.{Over}
use Rattle.bus_core.proofs.steps.free.Goals.{After-free_done}
use Rattle.bus_core.proofs.steps.free.Goals as goal

-- what is left of the seat that comes next
freed : (g : Over) (c : After-free_done g) → HasFreed g.C.Caller c.args.parts.now.board c.args.parts.now.locks
    (roots_of c.args.parts.now.ports.items) c.requires.next.seat c.free_done.new.self
freed g c =
    let x = c.args.parts.now in
    subst (λ (y : Seat _). HasFreed g.C.Caller x.board x.locks (roots_of x.ports.items) y c.free_done.new.self)
    (read_here x.seats.items c.args.place c.requires.next.seat c.index_mut-seat.result.now c.requires.next.here
    c.index_mut-seat.ensures.value)
    (subst (λ (ps : List _). HasFreed g.C.Caller x.board x.locks (roots_of ps) c.index_mut-seat.result.now c.free_done.new.self)
    c.as_slice.ensures.value c.free_done.ensures.freed)

pub free_done-requires-clause-may : goal.free_done-requires-clause-may
free_done-requires-clause-may g c κs within =
    let x = c.args.parts.now in
    let next = c.requires.next in
    subst (λ (ps : List _). MayEnd g.C.Caller x.board (roots_of ps) c.index_mut-seat.result.now) (sym c.as_slice.ensures.value)
    (subst (λ (y : Seat _). MayEnd g.C.Caller x.board (roots_of x.ports.items) y)
    (sym (read_here x.seats.items c.args.place next.seat c.index_mut-seat.result.now next.here c.index_mut-seat.ensures.value))
    (free-may c.requires.rests.kept next))

pub push-requires-clause-room : goal.push-requires-clause-room
push-requires-clause-room g c = room-here c.requires.rests.kept c.requires.next

pub free-requires : goal.free-requires
free-requires g c =
    let asked = free-asked c.requires.rests.kept c.requires.next c.free_done.new.self.number
    (freed-number c.requires.rests.kept c.requires.next c.free_done.new.self (freed g (goal.at.free-requires g c).After-free_done)) in
    record { there = asked.0; caller = asked.1; held = asked.2 }

pub returns : goal.returns
returns g c =
    let x = c.args.parts.now in
    let t = c.free_done.new.self in
    let went = freed g (goal.at.returns g c).After-free_done in
    let number : t.number ≡ c.requires.next.seat.number = freed-number c.requires.rests.kept c.requires.next t went in
    let both = free-kept c.requires.rests.kept c.requires.next _ t c.free_done.ensures.board refl went c.free.ensures refl
    (c.push.ensures.entries ∙ ap (λ (n : ℕ). x.journal.entries ++ entry.Free n c.args.lock.now ∷ []) number) c.push.ensures.room
    c.push.ensures.room_bytes refl refl in
    record {
      rests = record {
        kept = both.0;
        looked = looked-locks x.locks c.free.new.self x.seats.items c.args.place t c.requires.rests.looked
            (ap seen_of c.free.ensures ∙ same_words x.locks c.args.lock.now None) c.free_done.ensures.looked;
      };
      stepped = both.1;
    }

pub free_done-requires-clause-looked : goal.free_done-requires-clause-looked
free_done-requires-clause-looked g c κs within =
    let x = c.args.parts.now in
    let next = c.requires.next in
    subst (IsLookedAt x.locks)
    (sym (read_here x.seats.items c.args.place next.seat c.index_mut-seat.result.now next.here c.index_mut-seat.ensures.value))
    (c.requires.rests.looked c.args.place next.seat next.here)

use Rattle.bus_core.proofs.Cited.{◌<◌, ℕ, List, Option, Some, None, refl, sym, ◌∙◌, ap, subst, slice_get_within, Errno, Settle, settle-errs}
use Rattle.bus_core.proofs.Cited.{roots_of, run_of, whole_of, IsLookedAt, place_of, MayRefuse, IsRefusedIn, Seat}
use Rattle.bus_core.proofs.Kept.{place-here}
use Rattle.bus_core.proofs.Looking.{looked-locks}
use Rattle.bus_core.proofs.Refuse.{may-refuse, refused-kept}
use Rattle.bus_core.proofs.SeatLemmas.{read_here}
use Rattle.bus_core.proofs.steps.refuse.Goals as goal

pub index_mut-requires : goal.index_mut-requires
index_mut-requires g c =
    subst (λ (n : ℕ). c.args.place < n) (sym c.args.parts.now.seats.ok.0)
    (slice_get_within c.args.parts.now.seats.items c.args.place c.requires.next.seat c.requires.next.here)

pub refuse-requires-clause-may : goal.refuse-requires-clause-may
refuse-requires-clause-may g c κs within =
    let x = c.args.parts.now in
    let next = c.requires.next in
    subst (λ (ps : List _). MayRefuse g.C.Caller x.board (roots_of ps) c.in-Some.errno x.journal c.index_mut.result.now)
    (sym c.as_slice.ensures.value)
    (subst (λ (y : Seat _). MayRefuse g.C.Caller x.board (roots_of x.ports.items) c.in-Some.errno x.journal y)
    (sym (read_here x.seats.items c.args.place next.seat c.index_mut.result.now next.here c.index_mut.ensures.value))
    (may-refuse g.P.Port g.C.Caller x c.requires.rests.kept c.args.place next.seat next.here c.in-Some.errno (next.next
    ∙ ap (λ (o : Option Errno). Some (Settle o)) c.in-Some.is)))

pub returns-in-Some : goal.returns-in-Some
returns-in-Some g c =
    let x = c.args.parts.now in
    let next = c.requires.next in
    let refused : IsRefusedIn g.C.Caller x.board
    (roots_of x.ports.items) c.in-Some.errno x.journal c.refuse.new.journal next.seat c.refuse.new.self =
    subst (λ (y : Seat _). IsRefusedIn g.C.Caller x.board
    (roots_of x.ports.items) c.in-Some.errno x.journal c.refuse.new.journal y c.refuse.new.self)
    (read_here x.seats.items c.args.place next.seat c.index_mut.result.now next.here c.index_mut.ensures.value)
    (subst (λ (ps : List _). IsRefusedIn g.C.Caller x.board
    (roots_of ps) c.in-Some.errno x.journal c.refuse.new.journal c.index_mut.result.now c.refuse.new.self) c.as_slice.ensures.value
    c.refuse.ensures.refused) in
    let all = refused-kept g.P.Port g.C.Caller x c.requires.rests.kept c.args.place next.seat next.here c.in-Some.errno (next.next
    ∙ ap (λ (o : Option Errno). Some (Settle o)) c.in-Some.is)
    _ c.refuse.new.self c.refuse.ensures.board refl refused refl refl refl refl in
    record {
      rests = record {
        kept = all.0;
        looked = looked-locks x.locks x.locks x.seats.items c.args.place c.refuse.new.self c.requires.rests.looked refl
            c.refuse.ensures.looked;
      };
      stepped = all.1;
    }

pub refuse-requires-clause-looked : goal.refuse-requires-clause-looked
refuse-requires-clause-looked g c κs within =
    let x = c.args.parts.now in
    let next = c.requires.next in
    subst (IsLookedAt x.locks)
    (sym (read_here x.seats.items c.args.place next.seat c.index_mut.result.now next.here c.index_mut.ensures.value))
    (c.requires.rests.looked c.args.place next.seat next.here)

pub returns-in_default : goal.returns-in_default
returns-in_default g c =
    let x = c.args.parts.now in
    let next = c.requires.next in
    let first = next.next ∙ ap (λ (o : Option Errno). Some (Settle o)) c.in_default.is in
    absurd (let f = settle-errs (run_of g.P.Port g.C.Caller x)
    (whole_of g.P.Port g.C.Caller x c.requires.rests.kept.held c.requires.rests.kept.owes) c.requires.rests.kept.kept c.args.place
    (place_of g.C.Caller next.seat)
    (place-here g.P.Port g.C.Caller x c.requires.rests.kept c.args.place next.seat next.here) None first in
    cc)

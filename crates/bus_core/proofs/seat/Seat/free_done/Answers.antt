use Rattle.bus_core.proofs.Cited.{roots_of}
use Rattle.bus_core.proofs.Reseating.{may_end, freed}
use Rattle.bus_core.proofs.seat.Seat.free_done.Goals as goal

pub lock_done-requires : goal.lock_done-requires
lock_done-requires g c = record { looked = c.requires.looked; on = c.requires.may.seated.on }

pub end-requires-clause-may : goal.end-requires-clause-may
end-requires-clause-may g c κs within =
    may_end g.C.Caller c.args.board.now c.args.locks.now
    (roots_of c.args.ports.now) c.args.self.now c.lock_done.new.self c.lock_done.new.self c.requires.may
    c.lock_done.ensures.went

pub returns-clause-freed : goal.returns-clause-freed
returns-clause-freed g c =
    freed g.C.Caller c.args.board.now c.args.locks.now
    (roots_of c.args.ports.now) c.args.self.now c.lock_done.new.self c.end.new.self c.requires.may
    c.lock_done.ensures.went
    c.end.ensures.on c.end.ensures.ended c.end.ensures.seated

pub returns-clause-looked : goal.returns-clause-looked
returns-clause-looked g c = c.end.ensures.looked c.args.locks.now c.lock_done.ensures.looked

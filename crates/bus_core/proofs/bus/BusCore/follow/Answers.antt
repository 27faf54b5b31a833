use Rattle.bus_core.proofs.Cited.{◌≡◌, true, sym, subst, CoreState, has_caller}
use Rattle.std.specs.List.{slice_index_or}
use Rattle.bus_core.proofs.Told.{placed-of, went-by}
use Rattle.bus_core.proofs.bus.BusCore.follow.Goals as goal

pub follow-requires-clause-words : goal.follow-requires-clause-words
follow-requires-clause-words g c κs within k d low =
    let n = slice_index_or c.args.words.now k d in
    placed-of g.P.Port g.C.Caller c.self.inside.parts c.self.invariant n
    (subst (λ (v : CoreState _). has_caller v.opening.scripts n ≡ true) (sym c.self.view_is) (c.requires.words k d low))

pub returns : goal.returns
returns g c =
    went-by g.P.Port g.C.Caller c.self.inside.parts c.follow.new.parts _ _ c.self.view_is c.follow.ensures.core c.follow.ensures.come
    c.follow.ensures.through c.follow.ensures.follows

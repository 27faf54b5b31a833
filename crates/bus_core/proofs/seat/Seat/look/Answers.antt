use Rattle.bus_core.proofs.Cited.{refl, ap, subst, sym, ◌∙◌, IsLooked, SeenView, slots_of}
use Rattle.mux_plan.specs.Plans.{WalkView, walk_of}
use Rattle.bus_core.proofs.seat.Seat.look.Goals as goal

pub look-requires : goal.look-requires
look-requires g c = record { on = c.board.ensures.value ∙ sym c.requires.on; fresh = c.requires.fresh }

pub returns : goal.returns
returns g c =
    record {
      looked = subst (λ (x : SeenView). IsLooked (slots_of x) c.look.new.self) c.seen.ensures c.look.ensures.looked;
      same = refl;
      route = ap (λ (w : WalkView). w.route) c.look.ensures.same;
      walk = ap walk_of c.look.ensures.same;
    }

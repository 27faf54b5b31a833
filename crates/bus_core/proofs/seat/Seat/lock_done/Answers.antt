use Rattle.bus_core.proofs.Cited.{◌∙◌, ap, RouteView, Seat, Passed}
use Rattle.i2c_base.specs.declared.reply.Cut.TheVariants as cut_at
use Rattle.bus_core.proofs.Looking.{rest-looked}
use Rattle.bus_core.proofs.seat.Seat.lock_done.Goals as goal

pub look-requires : goal.look-requires
look-requires g c =
    let on = c.advance_walk.ensures in
    record {
      fresh = on.fresh;
      on = ap (λ (r : RouteView). r.board) on.route ∙ c.requires.on;
    }

pub returns : goal.returns
returns g c =
    let on = c.advance_walk.ensures in
    let look = c.look.ensures in
    record {
      went = record {
        same = ap (λ (s : Seat _). record s { cut = cut_at.No }) (look.same
            ∙ ap (λ (s : Seat _). record s { walk = c.look.new.self.walk }) on.same);
        walk = look.walk ∙ on.walk ∙ rest-looked c.args.locks.now c.args.self.now Passed c.requires.looked;
        route = look.route ∙ on.route;
      };
      looked = look.looked;
    }

use Rattle.bus_core.proofs.Cited.{◌≡◌, ◌∙◌, ap, Cut, Lined, cut_of_line}
use Rattle.bus_core.proofs.Looking.{rest-looked}
use Rattle.bus_core.proofs.seat.Seat.line_done.Goals.{then-failed, else-failed}
use Rattle.bus_core.proofs.seat.Seat.line_done.Goals as goal

pub returns : goal.returns
returns g c =
    let old = c.args.self.now in
    let on = c.advance_walk.ensures in
    let cut : c.if-failed.self ≡ cut_of_line c.args.failed =
    elim c.if-failed.branch [
      | then-failed x ↦ rw x.if-failed.true x.self-is
      | else-failed x ↦ rw x.if-failed.false x.self-is
    ] in
    record {
      went = λ v looked. record {
        same = on.same ∙ ap (λ (k : Cut). record old { walk = c.advance_walk.new.self.walk; cut = k }) cut;
        walk = on.walk ∙ rest-looked v old (Lined c.args.failed) looked;
        route = on.route;
      };
      updates = c.updates.ensures;
      fresh = on.fresh;
    }

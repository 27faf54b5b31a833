use Rattle.mux_plan.proofs.Cited.{refl, sym, ◌∙◌, ap, keeps, RouteView, hop_at, mark_on, kept_of}
use Rattle.mux_plan.proofs.Openings.{enters-lock, enters-next, tree_of-bus}
use Rattle.mux_plan.proofs.Rooms.{planned-next}
use Rattle.mux_plan.proofs.parts.WalkState.enter.Goals as goal

pub returns-then-not-is_parent-clause-tree : goal.returns-then-not-is_parent-clause-tree
returns-then-not-is_parent-clause-tree c = λ out.
    let m = c.muxes.self in
    enters-lock c.args.seen.now m.route c.muxes.place c.muxes.work m.stack out
    (c.muxes-test.ensures.at refl) (c.muxes-test.ensures.message refl)
    (ap (λ (x : RouteView). (hop_at x c.muxes.place).parent) (sym c.cross-work.ensures.route) ∙ sym c.if-not-is_parent.ensures)
    c.cross-work.new.self.route c.cross-work.result c.cross-work.new.self.stack c.cross-work.ensures.route c.cross-work.ensures.next
    c.cross-work.ensures.stack
    ∙ c.muxes.invariant.same out

pub muxes-preserved : goal.muxes-preserved
muxes-preserved c = record {
  planned =
      planned-next c.muxes.self.route c.cross-work.new.self.route c.muxes.place c.muxes.work c.cross-work.result
      (hop_at c.muxes.self.route c.muxes.place).parent
      (mark_on c.args.seen.now (hop_at c.muxes.self.route c.muxes.place).on)
      (keeps (hop_at c.muxes.self.route c.muxes.place) (kept_of c.args.seen.now (hop_at c.muxes.self.route c.muxes.place).mux))
      c.muxes.self.stack c.cross-work.new.self.stack c.muxes.invariant.planned (c.muxes-test.ensures.within refl)
      (c.cross-work.ensures.placed c.muxes.invariant.planned.placed.0.0)
      c.cross-work.ensures.route c.cross-work.ensures.stack
      (ap (λ (x : RouteView). (hop_at x c.muxes.place).parent) (sym c.cross-work.ensures.route) ∙ sym c.if-not-is_parent.ensures);
  route = c.cross-work.ensures.route ∙ c.muxes.invariant.route;
  came = c.cross-work.ensures.came ∙ c.muxes.invariant.came;
  same = λ out.
      let m = c.muxes.self in
      enters-next c.args.seen.now m.route c.muxes.place c.muxes.work m.stack out
      (c.muxes-test.ensures.at refl) (c.muxes-test.ensures.message refl)
      (ap (λ (x : RouteView). (hop_at x c.muxes.place).parent) (sym c.cross-work.ensures.route) ∙ sym c.if-not-is_parent.ensures)
      c.cross-work.new.self.route c.cross-work.result c.cross-work.new.self.stack c.cross-work.ensures.route c.cross-work.ensures.next
      c.cross-work.ensures.stack
      ∙ c.muxes.invariant.same out;
}

pub returns-clause-tree : goal.returns-clause-tree
returns-clause-tree c = λ out.
    c.reach.ensures.tree out
    ∙ sym (tree_of-bus c.muxes.self.route c.args.seen.now c.muxes.place c.muxes.work c.muxes.self.stack out
    (c.muxes-test.ensures.none refl))
    ∙ c.muxes.invariant.same out

pub returns-clause-planned : goal.returns-clause-planned
returns-clause-planned c = c.reach.ensures.planned c.muxes.place c.muxes.invariant.planned

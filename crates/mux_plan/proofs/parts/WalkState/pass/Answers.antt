use Rattle.mux_plan.proofs.Cited.{false, List, ◌∷◌, ◌+◌, sym, ◌∙◌, ap, seen, Task, RouteView, hop_at, tree_of, slots_of, part_task}
use Rattle.mux_plan.proofs.Openings.{passes-by, seen-step}
use Rattle.mux_plan.proofs.parts.WalkState.pass.Goals as goal

pub returns-else-is_parent-clause-tree : goal.returns-else-is_parent-clause-tree
returns-else-is_parent-clause-tree c = λ out.
    let s = c.args.self.now in
    let k = c.args.hop in
    ap (λ (ts : List Task). tree_of c.wait_select-next.new.self.route ts out) (c.push.ensures
    ∙ ap (λ (t : Task). t ∷ c.wait_select-next.new.self.stack) c.part_task.ensures)
    ∙ ap (λ (x : RouteView). tree_of x
    (part_task false (k + 1) c.wait_select-next.result ∷ c.wait_select-next.new.self.stack) out) c.wait_select-next.ensures.route
    ∙ sym (seen-step s.route (slots_of c.args.seen.now)
    (part_task false (k + 1) c.wait_select-next.result ∷ c.wait_select-next.new.self.stack) out tt)
    ∙ passes-by s.route c.args.seen.now k c.args.work.now s.stack out false
    (ap (λ (x : RouteView). (hop_at x k).parent) (sym c.wait_select-next.ensures.route) ∙ sym c.is_parent.ensures ∙ c.if-is_parent.false)
    c.wait_select-next.result c.wait_select-next.new.self.stack c.wait_select-next.ensures.next c.wait_select-next.ensures.stack

use Rattle.mux_plan.proofs.Cited.{List, ◌∷◌, drop, sym, ◌∙◌, ap, subst, seen, Task, Pass, SeenView, tree_of, slots_of, IsReady, IsStep}
use Rattle.std.proofs.Common.{rules}
use Rattle.mux_plan.proofs.Openings.{seen-step, ready-step}
use Rattle.mux_plan.proofs.parts.WalkState.look.Goals as goal

pub returns-in_default-task : goal.returns-in_default-task
returns-in_default-task c =
    let s = c.args.self.now in
    let v = slots_of c.args.seen.now in
    let stack = c.in-Some.ensures.some in
    let below = drop 1 s.stack in
    let step = ready-step c.in-Some.task.now below
    (subst IsReady stack c.requires.ready) c.in_default-task.not-Enter c.in_default-task.not-Pass in
    record {
      tree = λ out. ap (λ (ts : List Task). tree_of s.route ts out) stack
          ∙ sym (ap (λ (ts : List Task). seen v (tree_of s.route ts out)) stack
          ∙ seen-step s.route v (c.in-Some.task.now ∷ below) out step);
      planned = c.requires.planned;
      step = subst IsStep (sym stack) step;
      some = λ x. x;
      none = λ x. x;
      route = search rules;
      came = search rules;
    }

pub returns-in-Pass-clause-tree : goal.returns-in-Pass-clause-tree
returns-in-Pass-clause-tree c = λ out.
    let s = c.args.self.now in
    let w = c.in-Pass in
    c.pass.ensures.tree out
    ∙ ap (λ (x : SeenView). seen (slots_of x)
    (tree_of s.route (Pass w.hop w.work ∷ c.drop_top-in-Pass.new.self) out)) c.again.ensures
    ∙ ap (λ (ts : List Task). seen (slots_of c.args.seen.now) (tree_of s.route ts out))
    (ap (λ (ts : List Task). Pass w.hop w.work ∷ ts) c.drop_top-in-Pass.ensures
    ∙ sym (c.in-Some.ensures.some ∙ ap (λ (t : Task). t ∷ drop 1 s.stack) w.is))

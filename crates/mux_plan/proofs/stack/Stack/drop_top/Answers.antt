use Rattle.mux_plan.proofs.Cited.{reverse, drop, ap, ◌∙◌}
use Rattle.mux_plan.proofs.StackLemmas.{reverse_front}
use Rattle.mux_plan.proofs.stack.Stack.drop_top.Goals as goal

pub returns : goal.returns
returns g c = ap reverse c.drop_last.ensures ∙ reverse_front c.self.inside.items ∙ ap (λ ts. drop 1 ts) c.self.view_is

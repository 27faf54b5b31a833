use Rattle.mux_plan.proofs.Cited.{◌+◌, true, false, List, ◌∷◌, sym, ◌∙◌, ap, Task, Enter, Lock, Free, tree_of}
use Rattle.i2c_base.specs.declared.ids.LockId.{LockId}
use Rattle.mux_plan.proofs.Openings.{tree_of-locked}
use Rattle.mux_plan.proofs.parts.WalkState.lock.Goals as goal

pub returns-then-locks_on-clause-tree : goal.returns-then-locks_on-clause-tree
returns-then-locks_on-clause-tree c = λ out out2 o.
    let h = tree_of-locked c.args.self.now.route c.args.from c.args.place c.args.work c.args.self.now.stack out out2 o true
    (sym c.locks_on.ensures.value ∙ c.if-locks_on.true) in
    ap (λ (ts : List Task). tree_of c.args.self.now.route ts out)
    (c.push-then-locks_on.ensures ∙ ap (λ (ts : List Task). Lock (c.args.from + 1) c.args.place c.args.work ∷ ts) (c.push.ensures
    ∙ ap (λ (l : LockId). Free l ∷ c.args.self.now.stack) c.lock_at.ensures)) ∙ h

pub returns-else-locks_on-clause-tree : goal.returns-else-locks_on-clause-tree
returns-else-locks_on-clause-tree c = λ out out2 o.
    let h = tree_of-locked c.args.self.now.route c.args.from c.args.place c.args.work c.args.self.now.stack out out2 o false
    (sym c.locks_on.ensures.value ∙ c.if-locks_on.false) in
    ap (λ (ts : List Task). tree_of c.args.self.now.route ts out)
    (c.push-else-locks_on.ensures ∙ ap (λ (ts : List Task). Enter c.args.place c.args.work ∷ ts) (c.push.ensures
    ∙ ap (λ (l : LockId). Free l ∷ c.args.self.now.stack) c.lock_at.ensures)) ∙ h

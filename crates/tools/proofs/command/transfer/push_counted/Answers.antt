use Rattle.tools.proofs.Cited.{◌≡◌, ◌+◌, ◌-◌, ◌%◌, ◌++◌, ◌∷◌, [], sym, ap, ◌∙◌, append_assoc, append-nil, rules, counted}
use Rattle.tools.proofs.CombinedLemmas.{counted_none, counted_more}
use Rattle.tools.proofs.command.transfer.push_counted.Goals as goal

pub loop-preserved : goal.loop-preserved
loop-preserved c =
    let l = c.loop in
    let pushed : c.push.new.self ≡ l.bytes ++ l.byte ∷ [] = search rules in
    rw pushed
    (append_assoc l.bytes (l.byte ∷ []) (counted (c.args.count - (l.counter + 1)) ((l.byte + c.args.step) % 256) c.args.step)
    ∙ ap (λ t. l.bytes ++ t) (sym (counted_more c.args.count l.counter l.byte c.args.step c.loop-test.true)) ∙ l.invariant)

pub returns : goal.returns
returns c =
    let l = c.loop in
    let none : counted (c.args.count - l.counter) l.byte c.args.step ≡ [] =
    counted_none c.args.count l.counter l.byte c.args.step c.loop-test.false in
    sym (append-nil l.bytes) ∙ ap (λ t. l.bytes ++ t) (sym none) ∙ l.invariant

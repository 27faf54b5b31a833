use Rattle.i2c_top.proofs.Cited.{◌≡◌, ℕ, ◌++◌, [], ◌∷◌, List, take, get_or, sym, ◌∙◌, ap, arith, take_more, slice_get-get_or}
use Rattle.i2c_top.proofs.Cited.{cost_of_script, CallerView}
use Rattle.std.proofs.lemmas.List.{map-append}
use Rattle.i2c_top.proofs.GroupLemmas.{costs_in, cost_fits}
use Rattle.i2c_top.proofs.callers.costs_of.Goals as goal

pub overflow_cast-cost : goal.overflow_cast-cost
overflow_cast-cost c =
    let i = c.loop-script.script-index in
    let scripts = c.args.scripts.now in
    let here = slice_get-get_or scripts i c.script-item.result c.loop-script-test.true in
    let fits = cost_fits c.args.board.now scripts i (get_or scripts i c.script-item.result) c.requires.opened c.requires.cheap here in
    let same : cost_of_script c.script-item.result.script ≡ cost_of_script (get_or scripts i c.script-item.result).script =
    ap (λ (s : CallerView). cost_of_script s.script) c.script-item.is in
    omega (arith, fits, same, c.cost.ensures.value)

pub loop-script-preserved : goal.loop-script-preserved
loop-script-preserved c =
    let i = c.loop-script.script-index in
    let scripts = c.args.scripts.now in
    let s = get_or scripts i c.script-item.result in
    let same : c.cost.result ≡ cost_of_script s.script =
    c.cost.ensures.value ∙ ap (λ (k : CallerView). cost_of_script k.script) c.script-item.is in
    c.push.ensures.items ∙ ap (λ (ks : List ℕ). ks ++ c.cost.result ∷ []) c.loop-script.invariant
    ∙ ap (λ k. costs_in (take i scripts) ++ k ∷ []) same
    ∙ sym (map-append (λ (k : CallerView). cost_of_script k.script) (take i scripts) (s ∷ []))
    ∙ ap costs_in (sym (take_more scripts i c.script-item.result c.loop-script-test.true))

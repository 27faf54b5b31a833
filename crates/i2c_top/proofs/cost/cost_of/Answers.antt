use Rattle.i2c_top.proofs.Cited.{◌≡◌, ◌+◌, ◌++◌, [], ◌∷◌, List, take, ap, sym, ◌∙◌, arith, sum_by, take_all, take_more, CallerView}
use Rattle.std.proofs.lemmas.List.Sums.{sum_by_push}
use Rattle.i2c_top.proofs.CostLemmas.{cost_of_opened, costs_are}
use Rattle.i2c_top.proofs.cost.cost_of.Goals as goal

pub returns : goal.returns
returns c =
    c.loop-script.invariant.sum ∙ ap (sum_by cost_of_opened)
    (take_all c.loop-script.script-index c.args.scripts.now (omega (arith, c.loop-script-test.false)))
    ∙ costs_are c.args.board.now c.args.scripts.now c.requires.opened

pub loop-script-preserved : goal.loop-script-preserved
loop-script-preserved c =
    let scripts : List CallerView = c.args.scripts.now in
    let i = c.loop-script.script-index in
    let script : CallerView = c.script-item.result in
    let more : take (i + 1) scripts ≡ take i scripts ++ script ∷ [] = take_more scripts i script c.loop-script-test.true
    ∙ ap (λ s. take i scripts ++ s ∷ []) (sym c.script-item.is) in
    record {
      sum =
          omega (
            arith,
            c.loop-script.invariant.sum,
            c.cost-cost.ensures.value,
            ap (sum_by cost_of_opened) more,
            sum_by_push cost_of_opened (take i scripts) script,
          );
      small = omega (arith, c.loop-script.invariant.small, c.cost-cost.ensures.small);
    }

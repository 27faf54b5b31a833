use Rattle.bus_lines.proofs.Cited.{◌<◌, ◌≤◌, length, ap, ◌∙◌, arith, levelled_bits, at_node_level}
use Rattle.bus_lines.proofs.LevelLemmas.{levelled_set, levelled_none}
use Rattle.bus_lines.proofs.joining.set_level.Goals as goal

pub returns-then-number-len : goal.returns-then-number-len
returns-then-number-len c =
    let bs = c.args.targets.now.items in
    let lt : c.from-number.result < length bs = omega (arith, c.if-number-len.true, c.len.ensures) in
    levelled_set c.from-number.result c.args.level bs c.index_mut.result.now c.set_level_of.new.target lt
    (c.set_level_of.ensures ∙ ap (at_node_level c.args.level) c.index_mut.ensures.value)
    ∙ ap (λ m. levelled_bits m c.args.level bs) (c.from-number.ensures ∙ c.mux.view_is)

pub returns-else-number-len : goal.returns-else-number-len
returns-else-number-len c =
    let bs = c.args.targets.now.items in
    let le : length bs ≤ c.from-number.result = omega (arith, c.if-number-len.false, c.len.ensures) in
    levelled_none c.from-number.result c.args.level bs le
    ∙ ap (λ m. levelled_bits m c.args.level bs) (c.from-number.ensures ∙ c.mux.view_is)

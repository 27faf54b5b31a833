use Rattle.bus_lines.proofs.Cited.{◌∙◌, length-map, lists_of}
use Rattle.bus_lines.proofs.IndexLemmas.{index_is, index_lists}
use Rattle.bus_lines.proofs.index.Index.of.Goals as goal

pub returns-clause-index : goal.returns-clause-index
returns-clause-index c =
    let at = c.add_each.new.at.items in
    index_is c.args.targets.now (lists_of at) (length-map at (λ numbers. numbers.items) ∙ c.in_ok-add_each.ensures.all)
    c.in_ok-add_each.ensures.listed

pub returns-clause-listed : goal.returns-clause-listed
returns-clause-listed c =
    let at = c.add_each.new.at.items in
    index_lists c.args.targets.now (lists_of at) (length-map at (λ numbers. numbers.items) ∙ c.in_ok-add_each.ensures.all)
    c.in_ok-add_each.ensures.listed

use Rattle.bus_lines.proofs.Cited.{sym, ap, ◌∙◌, arith, where_joined, holds_line, seen, some_by, of_those}
use Rattle.bus_lines.proofs.NumberedLemmas.{told_some_each, below_at, told_done, asked_done, some_next}
use Rattle.bus_lines.proofs.edges.tell_each.Goals as goal

pub prove-unreachable-requires : goal.prove-unreachable-requires
prove-unreachable-requires c =
    let low = below_at c.requires c.loop-number.number-index c.from-number.result c.loop-number-test.true c.from-number.ensures in
    absurd (omega (arith, low, c.if-prove.true, c.loop-number.invariant.count))

pub loop-number-preserved : goal.loop-number-preserved
loop-number-preserved c =
    some_next (where_joined (seen c.args.edge)) holds_line c.loop-number.invariant c.from-number.result c.index-targets-number.result
    c.see.new.target c.loop-number-test.true c.from-number.ensures c.if-prove.false c.see.ensures
    c.holds_with-held.result c.holds_with-held.ensures

pub returns-clause-targets : goal.returns-clause-targets
returns-clause-targets c = told_done c.loop-number.invariant c.requires.apart c.loop-number-test.false

pub returns-clause-held : goal.returns-clause-held
returns-clause-held c =
    asked_done c.loop-number.invariant c.loop-number-test.false
    ∙ told_some_each (where_joined (seen c.args.edge)) holds_line c.args.numbers.now c.args.targets.now c.requires.apart
    ∙ ap (some_by (of_those c.args.numbers.now holds_line) 0) (sym (returns-clause-targets c))

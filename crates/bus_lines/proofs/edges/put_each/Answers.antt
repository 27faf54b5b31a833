use Rattle.bus_lines.proofs.Cited.{◌∙◌, arith, where_joined, Put, seen, acks_put}
use Rattle.bus_lines.proofs.NumberedLemmas.{told_was_each, below_at, told_done, asked_done, was_next}
use Rattle.bus_lines.proofs.edges.put_each.Goals as goal

pub prove-unreachable-requires : goal.prove-unreachable-requires
prove-unreachable-requires c =
    let low = below_at c.requires c.loop-number.number-index c.from-number.result c.loop-number-test.true c.from-number.ensures in
    absurd (omega (arith, low, c.if-prove.true, c.loop-number.invariant.count))

pub loop-number-preserved : goal.loop-number-preserved
loop-number-preserved c =
    was_next (where_joined (seen (Put c.args.byte))) (acks_put c.args.byte) c.loop-number.invariant c.from-number.result
    c.index-targets-number.result c.put-acked.new.target c.loop-number-test.true c.from-number.ensures c.if-prove.false
    c.put-acked.ensures.target c.put-acked.result c.put-acked.ensures.acked

pub returns-clause-targets : goal.returns-clause-targets
returns-clause-targets c = told_done c.loop-number.invariant c.requires.apart c.loop-number-test.false

pub returns-clause-acked : goal.returns-clause-acked
returns-clause-acked c =
    asked_done c.loop-number.invariant c.loop-number-test.false
    ∙ told_was_each (where_joined (seen (Put c.args.byte))) (acks_put c.args.byte) c.args.numbers.now c.args.targets.now c.requires.apart

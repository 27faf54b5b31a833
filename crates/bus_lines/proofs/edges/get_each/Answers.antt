use Rattle.bus_lines.proofs.Cited.{ap, ◌∙◌, arith, bit_and, where_joined, Get, seen, gives_get}
use Rattle.bus_lines.proofs.AndLemmas.{told_and_each, and_next}
use Rattle.bus_lines.proofs.NumberedLemmas.{below_at, told_done, asked_done}
use Rattle.bus_lines.proofs.edges.get_each.Goals as goal

pub prove-unreachable-requires : goal.prove-unreachable-requires
prove-unreachable-requires c =
    let low = below_at c.requires c.loop-number.number-index c.from-number.result c.loop-number-test.true c.from-number.ensures in
    absurd (omega (arith, low, c.if-prove.true, c.loop-number.invariant.count))

pub loop-number-preserved : goal.loop-number-preserved
loop-number-preserved c =
    let was = c.loop-number.byte in
    and_next (where_joined (seen (Get c.args.ack))) gives_get c.loop-number.invariant c.from-number.result c.index-targets-number.result
    c.get-byte.new.target c.loop-number-test.true c.from-number.ensures c.if-prove.false c.get-byte.ensures.target
    (bit_and was c.get-byte.result) c.loop-number.auto.byte-fits.fits (ap (bit_and was) c.get-byte.ensures.byte)

pub returns-clause-targets : goal.returns-clause-targets
returns-clause-targets c = told_done c.loop-number.invariant c.requires.apart c.loop-number-test.false

pub returns-clause-byte : goal.returns-clause-byte
returns-clause-byte c =
    asked_done c.loop-number.invariant c.loop-number-test.false
    ∙ told_and_each (where_joined (seen (Get c.args.ack))) gives_get c.args.numbers.now c.args.targets.now c.requires.apart

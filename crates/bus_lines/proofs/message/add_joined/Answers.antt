use Rattle.bus_lines.proofs.Cited.{get_or, arith}
use Rattle.bus_lines.proofs.NumberedLemmas.{among_at}
use Rattle.bus_lines.proofs.message.add_joined.Goals as goal

pub add_if-requires : goal.add_if-requires
add_if-requires c =
    let ns = c.args.numbers.now in
    let i = c.loop-number.number-index in
    let low = c.requires.below (get_or ns i 0) (among_at ns i c.loop-number-test.true) in
    omega (arith, low, c.loop-number.invariant.room)

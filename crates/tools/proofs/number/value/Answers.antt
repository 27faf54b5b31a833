use Rattle.tools.proofs.Cited.{◌+◌, ◌*◌, ◌<◌, arith, digits_on, within}
use Rattle.tools.proofs.DigitLemmas.{value_past}
use Rattle.tools.proofs.number.value.Goals as goal

pub returns-then-value-gt-LARGEST : goal.returns-then-value-gt-LARGEST
returns-then-value-gt-LARGEST c =
    let past : 128000 < c.loop-byte.value * c.if-hexadecimal.base + c.in_ok-digit.digit = omega (arith, c.from.ensures) in
    value_past c.args.hexadecimal c.loop-byte.value c.if-hexadecimal.base c.args.digits.now c.loop-byte.byte-index c.in_ok-digit.digit
    (within 0 128000 (digits_on c.args.hexadecimal 0 c.args.digits.now))
    (omega arith) (c.in_ok-digit.ensures) c.loop-byte.invariant.base past c.loop-byte.invariant.same

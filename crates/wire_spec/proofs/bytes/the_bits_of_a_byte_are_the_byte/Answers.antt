use Rattle.wire_spec.proofs.ByteLaws.{bits_are}
use Rattle.wire_spec.proofs.bytes.the_bits_of_a_byte_are_the_byte.Goals as goal

pub returns : goal.returns
returns c = bits_are

use Rattle.wire_spec.proofs.Cited.{refl}
use Rattle.wire_spec.specs.Bus.{pulled, looked}
use Rattle.wire_spec.proofs.examples.a_byte_that_is_cut_after_five_bits_is_no_byte.Goals as goal

pub returns : goal.returns
unfolding pulled looked
returns c = record { seen = refl; kept = refl; whole = refl }

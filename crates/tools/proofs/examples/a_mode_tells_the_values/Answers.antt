use Rattle.tools.proofs.Cited.{refl}
use Rattle.tools.specs.Commands.{grammar}
use Rattle.tools.specs.Options.{force_and_yes}
use Rattle.tools.specs.Sets.{set_words, set_bus, set_reg, set_values, set_number, set_byte, set_block}
use Rattle.tools.proofs.examples.a_mode_tells_the_values.Goals as goal

pub returns : goal.returns
unfolding grammar force_and_yes set_words set_bus set_reg set_values set_number set_byte set_block
returns c = record {
  wide = refl;
  wide_byte = refl;
  wide_word = refl;
  several = refl;
  wide_behind = refl;
  sent = refl;
  bare = refl;
  block = refl;
}

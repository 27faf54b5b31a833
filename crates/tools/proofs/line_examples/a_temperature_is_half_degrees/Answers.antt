use Rattle.tools.proofs.Cited.{refl}
use Rattle.tools.specs.Commands.{grammar}
use Rattle.tools.specs.DriverLines.{driver_lines}
use Rattle.tools.specs.Lm75Lines.{lm75_words, lm75_write_words, written_reg}
use Rattle.tools.proofs.line_examples.a_temperature_is_half_degrees.Goals as goal

pub returns : goal.returns
unfolding grammar driver_lines lm75_words lm75_write_words written_reg
returns c = record { below = refl; highest = refl; higher = refl; zero = refl; quarter = refl; temp = refl }

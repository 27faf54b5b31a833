use Rattle.tools.proofs.Cited.{refl}
use Rattle.tools.specs.At24Lines.{at24_words, at24_write_words, written_span}
use Rattle.tools.specs.ByteLists.{some_bytes}
use Rattle.tools.specs.Commands.{grammar}
use Rattle.tools.specs.DriverLines.{driver_lines}
use Rattle.tools.specs.HandleLines.{bproc_bytes, bproc_words, handle_lines}
use Rattle.tools.proofs.line_examples.bytes_end_a_line.Goals as goal

pub returns : goal.returns
unfolding grammar driver_lines at24_words at24_write_words written_span some_bytes handle_lines bproc_words bproc_bytes
returns c = record { two = refl; none = refl; large = refl; block = refl }

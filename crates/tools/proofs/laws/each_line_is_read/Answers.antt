use Rattle.tools.proofs.LineLemmas.{reads_lines}
use Rattle.tools.proofs.laws.each_line_is_read.Goals as goal

pub returns : goal.returns
returns c = reads_lines

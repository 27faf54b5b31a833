use Rattle.examples_rig.proofs.FairLemmas.{fair}
use Rattle.examples_rig.proofs.one_read.one_reads_are_fair.Goals as goal

pub returns : goal.returns
returns c = fair

use Rattle.core_laws.proofs.LockWords.{kept-after}
use Rattle.core_laws.proofs.words.changed_channels_are_told.Goals as goal

pub returns : goal.returns
returns c = kept-after

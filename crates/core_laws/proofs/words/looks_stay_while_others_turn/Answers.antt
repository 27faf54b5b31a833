use Rattle.core_laws.proofs.Apart.{looks-stay}
use Rattle.core_laws.proofs.words.looks_stay_while_others_turn.Goals as goal

pub returns : goal.returns
returns c = looks-stay

use Rattle.tools.proofs.LineLemmas.{none_is_longer, first_words_decide}
use Rattle.tools.proofs.laws.the_first_words_decide.Goals as goal

pub returns : goal.returns
returns c = record { within = none_is_longer; decide = first_words_decide }

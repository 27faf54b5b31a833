use Rattle.tools.proofs.LineLemmas.{refuses_behind_longest}
use Rattle.tools.proofs.laws.the_refused_word_is_behind_the_longest_front.Goals as goal

pub returns : goal.returns
returns c = refuses_behind_longest

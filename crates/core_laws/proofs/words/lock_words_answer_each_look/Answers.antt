use Rattle.core_laws.proofs.LockWords.{seen-told}
use Rattle.core_laws.proofs.words.lock_words_answer_each_look.Goals as goal

pub returns : goal.returns
returns c = seen-told

use Rattle.journal_laws.proofs.Cited.{◌≡◌, true, false, refl}
use Rattle.journal_laws.proofs.wrong.a_settle_comes_at_once.Goals as goal

pub returns : goal.returns
returns c = λ callers legal. (let f : false ≡ true = (legal.settles.0.1 refl).1 in cc)

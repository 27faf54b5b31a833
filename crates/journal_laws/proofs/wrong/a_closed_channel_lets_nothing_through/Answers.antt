use Rattle.journal_laws.proofs.Cited.{◌≡◌, true, false}
use Rattle.journal_laws.proofs.wrong.a_closed_channel_lets_nothing_through.Goals as goal

pub returns : goal.returns
returns c = λ callers asks legal. (let f : false ≡ true = legal.reach.0.0 in cc)

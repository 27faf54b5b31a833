use Rattle.journal_laws.proofs.Cited.{◌≡◌, refl, arith}
use Rattle.journal_laws.proofs.wrong.nobody_steps_before_a_settle.Goals as goal

pub returns : goal.returns
returns c = λ callers legal. absurd (let f : 1 ≡ 0 = (legal.settles.0.1 refl).0 in omega (arith, f))

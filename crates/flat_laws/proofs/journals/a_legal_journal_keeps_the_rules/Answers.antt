use Rattle.flat_laws.proofs.walk.Ruled.{ruled}
use Rattle.flat_laws.proofs.journals.a_legal_journal_keeps_the_rules.Goals as goal

pub returns : goal.returns
returns c =
    λ b callers asks past legal. ruled b callers asks past legal

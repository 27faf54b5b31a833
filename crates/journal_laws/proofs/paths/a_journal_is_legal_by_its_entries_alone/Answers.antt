use Rattle.flat_laws.proofs.walk.Ruled.{ruled}
use Rattle.journal_laws.proofs.past.RuledLegal.{legal-of}
use Rattle.journal_laws.proofs.paths.a_journal_is_legal_by_its_entries_alone.Goals as goal

pub returns : goal.returns
returns c =
    λ b callers asks past. (ruled b callers asks past, legal-of b callers asks past)

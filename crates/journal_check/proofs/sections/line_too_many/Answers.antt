use Rattle.journal_check.proofs.Cited.{sym, ◌∙◌}
use Rattle.journal_check.proofs.SectionLemmas.{too-many}
use Rattle.journal_check.proofs.sections.line_too_many.Goals as goal

pub returns-else-is_empty-clause-some : goal.returns-else-is_empty-clause-some
returns-else-is_empty-clause-some c = too-many c.args.sections.now c.args.first (sym c.is_empty.ensures ∙ c.if-is_empty.false)

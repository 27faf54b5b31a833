use Rattle.journal_laws.proofs.past.Fits.{fits-kept}
use Rattle.journal_laws.proofs.costs.each_reply_fits_its_transfer.Goals as goal

pub returns : goal.returns
returns c = λ b callers asks past some steps. fits-kept b asks some callers past steps

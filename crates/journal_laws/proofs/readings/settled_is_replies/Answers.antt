use Rattle.journal_laws.proofs.Cited.{holder-told, settled-told, cut-told}
use Rattle.journal_laws.proofs.readings.settled_is_replies.Goals as goal

pub returns : goal.returns
returns c = record { settled = settled-told; cut = cut-told; held = holder-told }

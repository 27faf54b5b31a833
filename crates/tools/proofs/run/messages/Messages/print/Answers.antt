use Rattle.tools.proofs.Cited.{sym, reply_by}
use Rattle.tools.specs.Transfers.{transfers}
use Rattle.tools.proofs.CallLemmas.{first_fits}
use Rattle.tools.proofs.run.messages.Messages.print.Goals as goal

pub push-requires-clause-fits : goal.push-requires-clause-fits
push-requires-clause-fits c =
    first_fits (transfers c.args.self.now) c.args.replies (reply_by c.in-Some.head c.in-Some.bytes.now) c.requires.fit
    (sym c.in-Some.ensures)

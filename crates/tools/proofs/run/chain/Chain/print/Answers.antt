use Rattle.tools.proofs.Cited.{sym, reply_by, chains}
use Rattle.tools.proofs.CallLemmas.{first_fits, received_fits}
use Rattle.tools.proofs.run.chain.Chain.print.Goals as goal

pub push-requires-clause-fits : goal.push-requires-clause-fits
push-requires-clause-fits c =
    received_fits c.args.self.now c.args.replies (reply_by c.in-Some.head c.in-Some.bytes.now) c.requires.fit (sym c.in-Some.ensures)

pub push-requires-in-Some-get-clause-fits : goal.push-requires-in-Some-get-clause-fits
push-requires-in-Some-get-clause-fits c =
    first_fits (chains c.args.self.now) c.args.replies (reply_by c.in-Some-get.head c.in-Some-get.bytes.now) c.requires.fit
    (sym c.in-Some-get.ensures)

use Rattle.i2c_base.specs.Replies.{reply_by}
use Rattle.addr_atr.proofs.FairLemmas.{fits-script}
use Rattle.addr_atr.proofs.caller.AtrCallerCaller.take.Goals as goal

pub take-requires-clause-fits : goal.take-requires-clause-fits
take-requires-clause-fits c = fits-script _ c.args.self.now (reply_by c.args.head c.args.bytes.now) c.self.view_is c.requires.fits

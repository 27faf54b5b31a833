use Rattle.std.proofs.Common.{sym}
use Rattle.i2c_base.specs.Replies.{reply_by}
use Rattle.tools.proofs.CallLemmas.{first_fits}
use Rattle.i2c_drivers.specs.Lm75.{register_reads}
use Rattle.i2c_drivers.proofs.lm75.print_read.Goals as goal

pub push_reading-requires-clause-fits : goal.push_reading-requires-clause-fits
push_reading-requires-clause-fits c =
    first_fits (register_reads c.args.sensor.now c.args.which) c.args.replies.now (reply_by c.in-Some.head c.in-Some.bytes.now)
    c.requires.fit (sym c.in-Some.ensures)

use Rattle.bus_journal.proofs.Cited.{codes, decimal_digit}
use Rattle.bus_journal.proofs.Behind.{four_pieces}
use Rattle.bus_journal.proofs.line.put_device_result.Goals as goal

pub returns-then-is_ok-clause-text : goal.returns-then-is_ok-clause-text
returns-then-is_ok-clause-text c =
    rw (
      c.put-then-is_ok.ensures,
      c.push.ensures,
      c.put.ensures,
      decimal_digit c.args.device c.if-device-lt10.true,
      c.is_ok.ensures c.if-is_ok.true,
    )
    (four_pieces c.args.room.now (codes "heard d") _ (codes " ok"))

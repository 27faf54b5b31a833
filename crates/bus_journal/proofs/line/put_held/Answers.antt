use Rattle.bus_journal.proofs.Cited.{decimal_digit}
use Rattle.bus_journal.proofs.Behind.{five_pieces}
use Rattle.bus_journal.proofs.line.put_held.Goals as goal

pub returns-then-number-lt10-clause-text : goal.returns-then-number-lt10-clause-text
returns-then-number-lt10-clause-text c =
    rw (
      c.push-then-number-lt10.ensures,
      c.put-then-number-lt10.ensures,
      c.push.ensures,
      c.put.ensures,
      decimal_digit c.args.caller c.if-caller-lt10.true,
      decimal_digit c.args.number c.if-number-lt10.true,
    )
    (five_pieces c.args.room.now c.args.word _ c.args.lock _)

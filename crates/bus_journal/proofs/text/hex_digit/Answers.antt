use Rattle.bus_journal.proofs.Digits.{digit_at}
use Rattle.bus_journal.proofs.text.hex_digit.Goals as goal

pub returns : goal.returns
returns c = digit_at c.args.value c.from.result c.requires c.from.ensures

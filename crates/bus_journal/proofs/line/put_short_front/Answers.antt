use Rattle.bus_journal.proofs.Cited.{refl, ◌∙◌, decimal_digit}
use Rattle.bus_journal.proofs.line.put_short_front.Goals as goal

pub returns-clause-text : goal.returns-clause-text
returns-clause-text c =
    let d = c.requires.digits in
    c.extend.ensures
    ∙ rw (decimal_digit c.args.caller d.0, decimal_digit c.args.bus d.1, decimal_digit c.args.part d.2, decimal_digit c.args.parts d.3) refl

use Rattle.i2c_session.proofs.LineLemmas.{took-line}
use Rattle.i2c_session.proofs.input.LineInput.next_line.Goals as goal

pub returns-in-Ok-clause-line : goal.returns-in-Ok-clause-line
returns-in-Ok-clause-line g c =
    took-line _ _ _ _ _ _ _ _ c.clear.ensures.items c.in-Ok.ensures.bytes c.in-Ok.ensures.rest c.as_slice.ensures.value c.cut_line-len.ensures.split
    c.truncate.ensures.items

use Rattle.tools.proofs.TableLemmas.{row_ended}
use Rattle.tools.proofs.run.dump.push_word_row.Goals as goal

pub returns-clause-bytes : goal.returns-clause-bytes
returns-clause-bytes c =
    row_ended _ _ _ _ _ _ c.args.row c.push_row_front.ensures.bytes c.push_word_cells.ensures.bytes c.trim.ensures.bytes
    c.push_byte.ensures.bytes

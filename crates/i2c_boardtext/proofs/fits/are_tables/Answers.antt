use Rattle.i2c_boardtext.proofs.Cited.{◌∙◌, is_some, as_table, view}
use Rattle.i2c_boardtext.proofs.DataLemmas.{tested_array}
use Rattle.i2c_boardtext.proofs.fits.are_tables.Goals as goal

pub returns-in-Some : goal.returns-in-Some
returns-in-Some c =
    c.each_is_table.ensures ∙ tested_array (λ d. is_some (as_table d)) c.in-Some.values.now (view c.args.value.now)
    (rw c.in-Some.is at c.items.ensures)

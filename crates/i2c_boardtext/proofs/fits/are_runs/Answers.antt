use Rattle.i2c_boardtext.proofs.Cited.{◌∙◌, view, is_run}
use Rattle.i2c_boardtext.proofs.DataLemmas.{tested_array}
use Rattle.i2c_boardtext.proofs.fits.are_runs.Goals as goal

pub returns-in-Some : goal.returns-in-Some
returns-in-Some c =
    c.each_is_run.ensures ∙ tested_array (is_run c.args.size) c.in-Some.runs.now (view c.args.value.now)
    (rw c.in-Some.is at c.items.ensures)

use Rattle.i2c_boardtext.proofs.Cited.{view}
use Rattle.i2c_boardtext.proofs.RowLemmas.{tables_are}
use Rattle.i2c_boardtext.proofs.rows.rows.Goals as goal

pub returns-in-Some-clause-tables : goal.returns-in-Some-clause-tables
returns-in-Some-clause-tables c =
    let found = rw c.in-Some.is at c.find.ensures in
    tables_are c.values_of.result.now (view c.in-Some.value.now) c.values_of.ensures (rw (← found) at c.requires.fits)

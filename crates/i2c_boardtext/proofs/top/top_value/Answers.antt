use Rattle.i2c_boardtext.proofs.Cited.{codes, get_member, table_view, elements_in}
use Rattle.i2c_boardtext.proofs.RowLemmas.{rows_same}
use Rattle.i2c_boardtext.proofs.top.top_value.Goals as goal

pub returns-clause-value : goal.returns-clause-value
returns-clause-value c =
    let ms = table_view c.args.table.now in
    rw (
      c.number_at.ensures.value,
      rows_same c.rows.result.now (elements_in (get_member (codes "root") ms)) c.rows.ensures.value,
      rows_same c.rows-2.result.now (elements_in (get_member (codes "mux") ms)) c.rows-2.ensures.value,
      rows_same c.rows-3.result.now (elements_in (get_member (codes "device") ms)) c.rows-3.ensures.value,
    )

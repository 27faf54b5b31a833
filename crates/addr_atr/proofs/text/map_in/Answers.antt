use Rattle.addr_atr.proofs.Cited.{ap, length, table_view, rows_of}
use Rattle.addr_atr.proofs.MapTextLemmas.{rows-told, rows-fail}
use Rattle.addr_atr.proofs.text.map_in.Goals as goal

pub returns-in-Ok-clause-told : goal.returns-in-Ok-clause-told
returns-in-Ok-clause-told c =
    rows-told (λ ts. ts.items) c.args.board.now (table_view c.args.table.now) (length c.muxes.result.now)
    (rows_of c.in-Ok.rows.now) c.map_of.result
    (ap length c.muxes.ensures.value) c.in-Ok.ensures.value c.map_of.ensures.told

pub returns-in-Err-clause-told : goal.returns-in-Err-clause-told
returns-in-Err-clause-told c =
    rows-fail c.args.board.now (table_view c.args.table.now) (length c.muxes.result.now) c.in-Err.fault (ap length c.muxes.ensures.value)
    c.in-Err.ensures.value

use Rattle.addr_atr.proofs.Cited.{◌≡◌, ◌∙◌, [], ◌∷◌, None, sym, ap, length, codes, length-map, get_member, table_view, unless_fault}
use Rattle.addr_atr.proofs.Cited.{top_rules, row_of, rows_of, table_fault, elements_in}
use Rattle.addr_atr.proofs.MapTextLemmas.{tested, some_there}
use Rattle.i2c_boardtext.proofs.RowLemmas.{rows_same}
use Rattle.addr_atr.proofs.text.tested_rows.Goals as goal

pub returns-in-Some-rows_fault-clause-value : goal.returns-in-Some-rows_fault-clause-value
returns-in-Some-rows_fault-clause-value c =
    let ms = table_view c.args.table.now in
    let vs = c.rows-rows.result.now in
    let top : table_fault top_rules ms ≡ None = sym (c.table_fault.ensures ∙ ap (λ r. table_fault (r ∷ []) ms) c.needs.ensures)
    ∙ c.in_default.is in
    sym (tested c.args.muxes ms (rows_of vs) (length vs) top (rows_same vs
    (elements_in (get_member (codes "atr") ms)) c.rows-rows.ensures.value)
    (length-map vs row_of) (some_there (length vs) (sym c.is_empty.ensures ∙ c.if-is_empty.false)) c.if-rows-gt32.false
    ∙ ap (λ o. unless_fault o (rows_of vs)) (sym c.rows_fault.ensures ∙ c.in-Some-rows_fault.is))

pub returns-in-None-clause-value : goal.returns-in-None-clause-value
returns-in-None-clause-value c =
    let ms = table_view c.args.table.now in
    let vs = c.rows-rows.result.now in
    let top : table_fault top_rules ms ≡ None = sym (c.table_fault.ensures ∙ ap (λ r. table_fault (r ∷ []) ms) c.needs.ensures)
    ∙ c.in_default.is in
    sym (tested c.args.muxes ms (rows_of vs) (length vs) top (rows_same vs
    (elements_in (get_member (codes "atr") ms)) c.rows-rows.ensures.value)
    (length-map vs row_of) (some_there (length vs) (sym c.is_empty.ensures ∙ c.if-is_empty.false)) c.if-rows-gt32.false
    ∙ ap (λ o. unless_fault o (rows_of vs)) (sym c.rows_fault.ensures ∙ c.in-None.is))

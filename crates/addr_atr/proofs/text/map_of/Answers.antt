use Rattle.addr_atr.proofs.Cited.{◌∙◌, [], sym, ap, map, length, arith, length-map, row_of, rows_of, fault_after, translator_value}
use Rattle.addr_atr.proofs.MapTextLemmas.{fault-told, map-told, map-is}
use Rattle.addr_atr.proofs.text.map_of.Goals as goal

pub map_fault-requires : goal.map_fault-requires
map_fault-requires c =
    let n = ap length c.in_ok-translators.ensures in
    let m = length-map (rows_of c.args.rows.now) translator_value in
    let k = length-map c.args.rows.now row_of in
    let d = ap length c.deref.ensures.value in
    let few = c.requires.few in
    omega (arith, n, m, k, d, few)

pub returns-in-Some-clause-told : goal.returns-in-Some-clause-told
returns-in-Some-clause-told c =
    let b = c.args.board.now in
    fault-told b (map translator_value (rows_of c.args.rows.now)) c.deref.result.now c.in-Some.fault
    (c.deref.ensures.value ∙ c.in_ok-translators.ensures)
    (sym c.map_fault.ensures ∙ c.in-Some.is)

pub returns-in-None-clause-told : goal.returns-in-None-clause-told
returns-in-None-clause-told c =
    let b = c.args.board.now in
    map-told b (map translator_value (rows_of c.args.rows.now)) c.in_ok-translators.translators.items c.in_ok-translators.ensures
    (ap (fault_after b []) (sym c.deref.ensures.value) ∙ sym c.map_fault.ensures ∙ c.in-None.is)

pub returns-in-None-clause-map : goal.returns-in-None-clause-map
returns-in-None-clause-map c =
    let b = c.args.board.now in
    map-is b (rows_of c.args.rows.now) c.in_ok-translators.translators.items c.in_ok-translators.ensures
    (ap (fault_after b []) (sym c.deref.ensures.value) ∙ sym c.map_fault.ensures ∙ c.in-None.is)

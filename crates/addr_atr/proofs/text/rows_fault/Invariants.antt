use Rattle.addr_atr.proofs.Cited.{◌≡◌, drop, rows_fault, translator_rules, rows_of}
use Rattle.addr_atr.proofs.text.rows_fault.Given as goal

abbrev pub invariant-loop-index : goal.invariant-loop-index
invariant-loop-index l =
    rows_fault (translator_rules l.muxes) l.index (rows_of (drop l.index l.rows)) ≡ rows_fault (translator_rules l.fn.muxes) 0
    (rows_of l.fn.rows)

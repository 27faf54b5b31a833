use Rattle.addr_atr.proofs.Cited.{vec_capacity, vec_len, AreMade, translator_value, row_of}
use Rattle.addr_atr.proofs.text.translators.Given as goal

abbrev pub invariant-loop-value : goal.invariant-loop-value
invariant-loop-value l =
    AreMade (λ v. translator_value (row_of v)) l.rows l.value-index l.translators.items (vec_len l.translators) (vec_capacity l.translators)

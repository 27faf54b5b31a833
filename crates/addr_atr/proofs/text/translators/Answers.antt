use Rattle.addr_atr.proofs.Cited.{◌∙◌, ap, map, arith, take_all, translator_value, row_of}
use Rattle.addr_atr.proofs.MapTextLemmas.{map_both}
use Rattle.addr_atr.proofs.text.translators.Goals as goal

pub returns : goal.returns
returns c =
    let values = c.args.rows.now in
    c.loop-value.invariant.made ∙ ap (map (λ v. translator_value (row_of v)))
    (take_all c.loop-value.value-index values (omega (arith, c.loop-value-test.false)))
    ∙ map_both translator_value row_of values

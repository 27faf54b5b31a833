use Rattle.i2c_top.proofs.Cited.{ℕ, sym, ◌∙◌, ap, arith, is_numeral}
use Rattle.i2c_top.proofs.NumberLemmas.{named_read, named_unread}
use Rattle.i2c_top.proofs.number.number_named.Goals as goal

pub returns-in-Ok-clause-value : goal.returns-in-Ok-clause-value
returns-in-Ok-clause-value c =
    c.within.ensures.value
    ∙ sym (named_read c.args.word.now c.args.low c.args.high (omega arith)
    (ap is_numeral (sym c.as_bytes.ensures.value) ∙ sym c.is_numeral.ensures ∙ c.if-not-is_numeral.false) ℕ c.in-Ok.number
    c.in-Ok.ensures.value.0)

pub returns-in-Err-clause-value : goal.returns-in-Err-clause-value
returns-in-Err-clause-value c =
    sym (named_unread c.args.word.now c.args.low c.args.high (omega arith)
    (ap is_numeral (sym c.as_bytes.ensures.value) ∙ sym c.is_numeral.ensures ∙ c.if-not-is_numeral.false) c.in-Err.field-0
    c.in-Err.ensures.value.0)

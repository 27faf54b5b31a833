use Rattle.i2c_top.proofs.Cited.{◌∙◌, ap, sym, map, arith, take_all, length-drop, string_bytes}
use Rattle.std.proofs.lemmas.List.{drop-map}
use Rattle.i2c_top.proofs.words.words_from.Goals as goal

pub returns : goal.returns
returns c =
    ap (λ xs. map string_bytes xs) (take_all _ _ (omega (arith, length-drop c.args.place c.args.words.now)))
    ∙ sym (drop-map string_bytes c.args.place c.args.words.now)

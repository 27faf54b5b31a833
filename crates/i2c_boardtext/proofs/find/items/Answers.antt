use Rattle.i2c_boardtext.proofs.Cited.{◌∙◌, ap, map, Some, view}
use Rattle.i2c_boardtext.proofs.DataLemmas.{items_in-array}
use Rattle.i2c_boardtext.proofs.find.items.Goals as goal

pub returns-in-Some : goal.returns-in-Some
returns-in-Some c =
    ap (λ s. Some (map view s)) c.as_slice.ensures.value ∙ items_in-array _ (view c.args.value.now) (rw c.in-Some.is at c.as_array.ensures)

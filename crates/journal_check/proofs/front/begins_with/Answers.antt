use Rattle.journal_check.proofs.Cited.{◌≡◌, true, false, sym, ◌∙◌}
use Rattle.std.proofs.lemmas.Bool.Decides.{Decides-eqb}
use Rattle.std.proofs.lemmas.Slice.Eq.{starts_is}
use Rattle.journal_check.proofs.front.begins_with.Goals as goal

pub returns-clause-yes : goal.returns-clause-yes
returns-clause-yes c = (starts_is Decides-eqb c.args.text.now c.args.front.now c.starts_with.result c.starts_with.ensures.value).0

pub returns-clause-no : goal.returns-clause-no
returns-clause-no c = λ no more is.
    let yes = (starts_is Decides-eqb c.args.text.now c.args.front.now c.starts_with.result c.starts_with.ensures.value).1 more is in
    let f : false ≡ true = sym no ∙ yes in cc

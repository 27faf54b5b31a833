use Rattle.bus_journal.proofs.Cited.{◌≡◌, ◌++◌, ℕ, List, drop, length, refl, sym, ap, ◌∙◌, drop_at}
use Rattle.std.proofs.Common.{Some, None}
use Rattle.std.proofs.lemmas.Bool.Decides.{Decides-eqb}
use Rattle.std.proofs.lemmas.Slice.Eq.{bytes_eq-Decides, strip_prefix_is}
use Rattle.bus_journal.proofs.read.has_parts.Goals as goal

pub returns-in-Some-clause-yes : goal.returns-in-Some-clause-yes
returns-in-Some-clause-yes c = λ test.
    let parts : c.args.line.now ≡ c.args.front.now ++ c.in-Some.rest.now =
    strip_prefix_is Decides-eqb c.args.line.now c.args.front.now (Some c.in-Some.rest) c.in-Some.ensures.cases in
    let same : c.in-Some.rest.now ≡ c.args.end.now = (bytes_eq-Decides c.in-Some.rest.now c.args.end.now).0 (sym c.eq.ensures ∙ test) in
    ap (λ (xs : List ℕ). c.args.front.now ++ xs) (sym same) ∙ sym parts

pub returns-in-Some-clause-no : goal.returns-in-Some-clause-no
returns-in-Some-clause-no c = λ is.
    let parts : c.args.line.now ≡ c.args.front.now ++ c.in-Some.rest.now =
    strip_prefix_is Decides-eqb c.args.line.now c.args.front.now (Some c.in-Some.rest) c.in-Some.ensures.cases in
    let n = length c.args.front.now in
    let same : c.in-Some.rest.now ≡ c.args.end.now =
    sym (drop_at c.args.front.now c.in-Some.rest.now n refl) ∙ ap (drop n) (sym parts ∙ sym is)
    ∙ drop_at c.args.front.now c.args.end.now n refl in
    c.eq.ensures ∙ (bytes_eq-Decides c.in-Some.rest.now c.args.end.now).1 same

pub returns-in-None-clause-no : goal.returns-in-None-clause-no
returns-in-None-clause-no c = λ is.
    absurd (strip_prefix_is Decides-eqb c.args.line.now c.args.front.now None c.in-None.ensures.cases c.args.end.now (sym is))

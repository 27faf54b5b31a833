use Rattle.journal_check.proofs.Cited.{ℕ, ◌+◌, List, [], ◌∷◌, subst, GoesOn, GoesOtherwise}
use Rattle.journal_check.proofs.SectionLemmas.{err-under, goes-on-then, heading-is, ok-under, otherwise-first, otherwise-then}
use Rattle.journal_check.proofs.sections.section_goes_on.Goals as goal

abbrev heading : ℕ → List ℕ
heading caller = 99 ∷ 97 ∷ 108 ∷ 108 ∷ 101 ∷ 114 ∷ 32 ∷ (48 + caller) ∷ 10 ∷ []

pub returns-in-Ok-clause-ok : goal.returns-in-Ok-clause-ok
returns-in-Ok-clause-ok c =
    let text : List ℕ = c.args.text.now in
    let old : List ℕ = c.args.left.rest.now in
    let n : ℕ = c.args.left.number in
    ok-under c.goes_on-in-Ok.result _ _
    (λ left on. subst (λ (due : List ℕ). GoesOn due old n left.rest.now left.number) (heading-is c.args.caller text c.requires.digit)
    (goes-on-then (heading c.args.caller) text old n c.in-Ok.under.rest.now c.in-Ok.under.number left.rest.now left.number
    c.in-Ok.ensures.ok on))
    c.goes_on-in-Ok.ensures.ok

pub returns-in-Ok-clause-other : goal.returns-in-Ok-clause-other
returns-in-Ok-clause-other c =
    let text : List ℕ = c.args.text.now in
    let old : List ℕ = c.args.left.rest.now in
    let n : ℕ = c.args.left.number in
    err-under c.goes_on-in-Ok.result _ _
    (λ f otherwise. subst (λ (due : List ℕ). GoesOtherwise due old n f) (heading-is c.args.caller text c.requires.digit)
    (otherwise-then (heading c.args.caller) text old n c.in-Ok.under.rest.now c.in-Ok.under.number f c.in-Ok.ensures.ok otherwise))
    c.goes_on-in-Ok.ensures.other

pub returns-in-Err-clause-other : goal.returns-in-Err-clause-other
returns-in-Err-clause-other c =
    let text : List ℕ = c.args.text.now in
    subst (λ (due : List ℕ). GoesOtherwise due c.args.left.rest.now c.args.left.number c.in-Err.line)
    (heading-is c.args.caller text c.requires.digit)
    (otherwise-first (heading c.args.caller) text c.args.left.rest.now c.args.left.number c.in-Err.line c.in-Err.ensures.other)

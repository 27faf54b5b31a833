use Rattle.journal_check.proofs.Cited.{◌≡◌, ℕ, ◌+◌, ◌-◌, List, true, false, length, sym, ◌∙◌, ap, subst, codes, bytes_eq, bytes_eq-Decides}
use Rattle.journal_check.proofs.Cited.{Sections, Over}
use Rattle.journal_check.proofs.FormLemmas.{IsReading, no-line, reads-other, heading-at}
use Rattle.journal_check.proofs.form.behind_heading.Goals as goal

pub returns-then-is_line-clause-ok : goal.returns-then-is_line-clause-ok
returns-then-is_line-clause-ok c =
    let line : List ℕ = c.in-Some.line.now in
    let test : bytes_eq c.in-Some.line.now (codes "journal") ≡ true = sym c.is_line.ensures ∙ c.if-is_line.true in
    let found = c.in-Some.ensures.some in
    heading-at c.args.text.now c.loop-line.rest.now c.in-Some.line.now c.loop-line.number c.loop-line.invariant found.0 found.1 test
    ((bytes_eq-Decides c.in-Some.line.now (codes "journal")).0 test)
    (length c.args.text.now - length c.rest_after-rest.result.now) (ap
    (λ (xs : List ℕ). length c.args.text.now - length xs) c.rest_after-rest.ensures)

pub loop-line-preserved : goal.loop-line-preserved
loop-line-preserved c =
    let test : bytes_eq c.in-Some.line.now (codes "journal") ≡ false = sym c.is_line.ensures ∙ c.if-is_line.false in
    let found = c.in-Some.ensures.some in
    subst (λ (xs : List ℕ). IsReading c.args.text.now xs (c.loop-line.number + 1)) (sym c.rest_after-rest.ensures)
    (reads-other c.args.text.now c.loop-line.rest.now c.in-Some.line.now c.loop-line.number c.loop-line.invariant found.0 found.1 test
    (λ same. let f : false ≡ true = sym test ∙ (bytes_eq-Decides c.in-Some.line.now (codes "journal")).1 same in cc))

pub returns-clause-wrong : goal.returns-clause-wrong
returns-clause-wrong c = c.loop-line.invariant.goes c.loop-line.number
    (no-line Sections c.loop-line.number c.loop-line.rest.now (λ e. (let f : Sections ≡ Over = e in cc))
    (c.ended_line.ensures.none c.in_default.is))

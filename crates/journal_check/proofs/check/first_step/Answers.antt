use Rattle.journal_check.proofs.Cited.{◌≡◌, ℕ, List, length, ◌+◌, cond, Bool, sym, ◌∙◌, ap, flat_map, entry_line, ended_line, entry-line}
use Rattle.journal_check.proofs.LineLemmas.{entry-lines, second-line, one-step, step-by}
use Rattle.journal_check.proofs.check.first_step.Goals as goal
use Rattle.journal_check.proofs.check.first_step.Goals.{else-not-is_empty-via-then-not-is_empty+else-belongs}
use Rattle.journal_check.proofs.check.first_step.Goals.{else-not-is_empty-via-else-not-is_empty}

pub returns-then-belongs-clause-step : goal.returns-then-belongs-clause-step
returns-then-belongs-clause-step c =
    λ e es all text.
    let line : c.first_line-line.result.now ≡ entry_line e = c.first_line-line.ensures (entry_line e) (flat_map ended_line es)
    (entry-line e) (text ∙ entry-lines e es) in
    let rest : c.rest_after-rest.result.now ≡ flat_map ended_line es = c.rest_after-rest.ensures
    ∙ second-line e es c.args.text.now (length c.first_line-line.result.now + 1) text (ap (λ (xs : List ℕ). length xs + 1) line) in
    sym (step-by e es c.rest_after-rest.result.now all rest (sym c.is_empty.ensures ∙ c.if-not-is_empty.true) c.first_line-line.result.now
    c.first_line.result.now line c.first_line.ensures ∙ ap (λ (t : Bool). cond t 2 1) (sym c.belongs.ensures ∙ c.if-belongs.true))

pub returns-else-not-is_empty-clause-step : goal.returns-else-not-is_empty-clause-step
returns-else-not-is_empty-clause-step c =
    λ e es all text.
    let line : c.first_line-line.result.now ≡ entry_line e = c.first_line-line.ensures (entry_line e) (flat_map ended_line es)
    (entry-line e) (text ∙ entry-lines e es) in
    let rest : c.rest_after-rest.result.now ≡ flat_map ended_line es = c.rest_after-rest.ensures
    ∙ second-line e es c.args.text.now (length c.first_line-line.result.now + 1) text (ap (λ (xs : List ℕ). length xs + 1) line) in
    elim c.else-not-is_empty.branch [
      | else-not-is_empty-via-then-not-is_empty+else-belongs w ↦
          sym (step-by e es c.rest_after-rest.result.now all rest (sym c.is_empty.ensures ∙ w.if-not-is_empty.true) c.first_line-line.result.now
          w.first_line.result.now line w.first_line.ensures ∙ ap (λ (t : Bool). cond t 2 1) (sym w.belongs.ensures ∙ w.if-belongs.false))
      | else-not-is_empty-via-else-not-is_empty w ↦ one-step e es c.rest_after-rest.result.now rest
          (sym c.is_empty.ensures ∙ w.if-not-is_empty.false)
    ]

use Rattle.journal_check.proofs.Cited.{◌≡◌, ℕ, ◌+◌, ◌-◌, List, true, false, length, refl, sym, ◌∙◌, ap, subst, inl, inr, codes, ◌==◌}
use Rattle.journal_check.proofs.Cited.{bytes_eq, bytes_eq-Decides, Entries, Over}
use Rattle.journal_check.proofs.FormLemmas.{IsTelling, no-line, not-an-entry, behind-end, tells-more, end-at}
use Rattle.journal_check.proofs.form.read_entries.Goals as goal

pub returns-then-not-is_empty-clause-wrong : goal.returns-then-not-is_empty-clause-wrong
returns-then-not-is_empty-clause-wrong c =
    let test : bytes_eq c.in-Some.line.now (codes "end") ≡ true = sym c.is_line.ensures ∙ c.if-is_line.true in
    let found = c.in-Some.ensures.some in
    inr (
      c.loop-line.number + 1,
      refl,
      behind-end c.args.board.now c.args.text.now c.loop-line.rest.now c.in-Some.line.now c.args.first c.loop-line.number c.loop-line.gaps
          c.loop-line.invariant.0 found.0 found.1 test
          (ap (λ (xs : List ℕ). (length xs == 0)) (sym c.rest_after-next.ensures) ∙ sym c.is_empty.ensures ∙ c.if-not-is_empty.true),
    )

pub returns-then-is_line-clause-ok : goal.returns-then-is_line-clause-ok
returns-then-is_line-clause-ok c =
    let test : bytes_eq c.in-Some.line.now (codes "end") ≡ true = sym c.is_line.ensures ∙ c.if-is_line.true in
    let found = c.in-Some.ensures.some in
    end-at c.args.board.now c.args.text.now c.loop-line.rest.now c.in-Some.line.now c.args.first c.loop-line.number c.loop-line.gaps
    c.loop-line.invariant.0 found.0 found.1 ((bytes_eq-Decides c.in-Some.line.now (codes "end")).0 test)
    (ap (λ (xs : List ℕ). (length xs == 0)) (sym c.rest_after-next.ensures) ∙ sym c.is_empty.ensures ∙ c.if-not-is_empty.false)
    (length c.args.text.now - length c.loop-line.rest.now) refl

pub loop-line-preserved : goal.loop-line-preserved
loop-line-preserved c =
    let test : bytes_eq c.in-Some.line.now (codes "end") ≡ false = sym c.is_line.ensures ∙ c.if-is_line.false in
    let found = c.in-Some.ensures.some in (
      subst (λ (xs : List ℕ). IsTelling c.args.board.now c.args.text.now xs c.args.first (c.loop-line.number + 1) c.add_line.new.gaps)
          (sym c.rest_after-next.ensures)
          (tells-more c.args.board.now c.args.text.now c.loop-line.rest.now c.in-Some.line.now c.args.first c.loop-line.number
          c.loop-line.gaps
          c.loop-line.invariant.0 found.0 found.1 c.add_line.new.gaps test c.in-Ok-add_line.ensures.ok),
      c.add_line.ensures.count ∙ c.loop-line.invariant.1,
    )

pub returns-clause-wrong : goal.returns-clause-wrong
returns-clause-wrong c = inr (
  c.loop-line.number,
  refl,
  c.loop-line.invariant.0.goes c.loop-line.number
      (no-line Entries c.loop-line.number c.loop-line.rest.now (λ e. (let f : Entries ≡ Over = e in cc))
      (c.ended_line.ensures.none c.in_default-ended_line.is)),
)

pub returns-in-Err-clause-wrong : goal.returns-in-Err-clause-wrong
returns-in-Err-clause-wrong c =
    let test : bytes_eq c.in-Some.line.now (codes "end") ≡ false = sym c.is_line.ensures ∙ c.if-is_line.false in
    let found = c.in-Some.ensures.some in
    elim c.in-Err.ensures.wrong [
      | inl memory ↦ inl memory
      | inr line ↦ inr (
        c.loop-line.number,
        line.0,
        not-an-entry c.args.board.now c.args.text.now c.loop-line.rest.now c.in-Some.line.now c.args.first c.loop-line.number
            c.loop-line.gaps
            c.loop-line.invariant.0 found.0 found.1 test line.1,
      )
    ]

use Rattle.journal_laws.proofs.unique.a_schedule_has_one_legal_journal.Goals as goal

pub returns : goal.returns
returns c =
    λ b callers asks words past other plain rules some limits legal1 legal2.
    c.a_schedule_has_one_journal.ensures.same b callers asks words past other plain rules some
    (c.a_legal_journal_is_stepwise.ensures.stepwise b callers asks past plain rules some limits legal1)
    (c.a_legal_journal_is_stepwise.ensures.stepwise b callers asks other plain rules some limits legal2)

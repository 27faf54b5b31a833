use Rattle.journal_check.proofs.Cited.{◌≡◌, ℕ, ◌++◌, List, All, length, drop, refl, sym, ◌∙◌, ap, subst, inl, inr, flat_map, front_rest}
use Rattle.journal_check.proofs.Cited.{Entry, IsStuckIn, ended_line, IsEntry, JournalView}
use Rattle.std.proofs.lemmas.List.Elements.{All-drop}
use Rattle.bus_core.proofs.Advances.{waits-by}
use Rattle.journal_check.proofs.OverLemmas.{over-stuck}
use Rattle.journal_check.proofs.StepLemmas.{lines-behind}
use Rattle.journal_check.proofs.steps.step_told.Goals as goal

pub returns-then-begins_with-clause-some : goal.returns-then-begins_with-clause-some
returns-then-begins_with-clause-some g c =
    let added = c.step.ensures.stepped c.in-Stepped.is in
    let made = added.turn c.requires.tells in
    let old : List Entry = c.args.core.now.journal.entries in
    let lines : c.rest_after-made.result.now ≡ flat_map ended_line made.turn.entries =
    lines-behind c.args.core.now.journal.entries made.turn.entries c.step.new.self.journal.entries c.text.result.now
    c.rest_after-made.result.now
    (length c.text-at.result.now) made.entries
    (c.text.ensures ∙ ap (λ (j : JournalView). flat_map ended_line j.entries) c.journal-in-Stepped-2.ensures)
    (ap (λ (xs : List ℕ). length xs) (c.text-at.ensures ∙ ap (λ (j : JournalView). flat_map ended_line j.entries) c.journal.ensures))
    c.rest_after-made.ensures in
    record {
      room = added.room;
      made = made;
      in_range = subst (λ (xs : List Entry). All IsEntry xs)
          (ap (drop (length c.args.core.now.journal.entries)) (ap (λ (j : JournalView). j.entries) c.journal-in-Stepped.ensures
          ∙ made.entries)
          ∙ front_rest (c.args.core.now.journal.entries ++ made.turn.entries) c.args.core.now.journal.entries made.turn.entries refl)
          (All-drop IsEntry (length c.args.core.now.journal.entries) c.journal-in-Stepped.result.now.entries
          c.entries_are_in_range.ensures);
      stands = c.begins_with.ensures.yes c.if-begins_with.true
          ∙ ap (λ (xs : List ℕ). xs ++ drop (length c.rest_after-made.result.now) c.args.text.now) lines;
    }

pub returns-else-begins_with-clause-none : goal.returns-else-begins_with-clause-none
returns-else-begins_with-clause-none g c is =
    let added = c.step.ensures.stepped c.in-Stepped.is in
    let made = added.turn c.requires.tells in
    let lines : c.rest_after-made.result.now ≡ flat_map ended_line made.turn.entries =
    lines-behind c.args.core.now.journal.entries made.turn.entries c.step.new.self.journal.entries c.text.result.now
    c.rest_after-made.result.now
    (length c.text-at.result.now) made.entries
    (c.text.ensures ∙ ap (λ (j : JournalView). flat_map ended_line j.entries) c.journal-in-Stepped-2.ensures)
    (ap (λ (xs : List ℕ). length xs) (c.text-at.ensures ∙ ap (λ (j : JournalView). flat_map ended_line j.entries) c.journal.ensures))
    c.rest_after-made.ensures in
    inr (record {
      made = made;
      differs = λ more stands. c.begins_with.ensures.no c.if-begins_with.false more
          (stands ∙ ap (λ (xs : List ℕ). xs ++ more) (sym lines));
    })

pub returns-in_default : goal.returns-in_default
returns-in_default g c =
    record {
      opening = c.step.ensures.opening;
      roots = c.step.ensures.roots;
      told = c.step.ensures.told c.requires.tells;
      some = tt;
      none = λ _.
          inl (waits-by (IsStuckIn g.C.Caller.asked c.args.core.now c.args.caller) c.step.result c.in_default.not-Stepped
          (λ l h is. let waits = (c.step.ensures.blocked l h is).1 in inl (l, h, waits.next c.requires.tells, waits.told c.requires.tells))
          (λ is. over-stuck g.C.Caller.asked c.args.core.now c.args.caller (c.step.ensures.over c.requires.tells is)));
    }

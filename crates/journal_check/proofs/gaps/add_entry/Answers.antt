use Rattle.journal_check.proofs.Cited.{◌≡◌, ℕ, Option, Some, None, get_or, refl, sym, ◌∙◌, ap, arith, root_told}
use Rattle.std.proofs.lemmas.Option.{slice_get-get_or}
use Rattle.bus_journal.specs.Borrowed.{entry_seen}
use Rattle.journal_check.proofs.GapLemmas.{entry-added, entry-beyond, entry-nowhere}
use Rattle.journal_check.proofs.gaps.add_entry.Goals as goal

pub returns-in_ok-add-clause-more : goal.returns-in_ok-add-clause-more
returns-in_ok-add-clause-more c =
    λ es told.
    entry-added c.args.board.now es (entry_seen c.args.entry.now) c.args.roots.now told c.from-place.result
    (get_or c.args.roots.now c.from-place.result c.index-roots-place.result) c.add.new.self
    (sym c.root_told.ensures ∙ c.in-Some.is ∙ ap (λ (k : ℕ). Some k) (sym (c.from-place.ensures ∙ c.root.view_is)))
    (slice_get-get_or c.args.roots.now c.from-place.result c.index-roots-place.result c.if-place-roots.true)
    c.in_ok-add.ensures.gaps c.in_ok-add.ensures.since

pub returns-else-place-roots-clause-more : goal.returns-else-place-roots-clause-more
returns-else-place-roots-clause-more c = λ es told.
    entry-beyond c.args.board.now es (entry_seen c.args.entry.now) c.args.roots.now told c.from-place.result
    (sym c.root_told.ensures ∙ c.in-Some.is ∙ ap (λ (k : ℕ). Some k) (sym (c.from-place.ensures ∙ c.root.view_is)))
    (omega (arith, c.if-place-roots.false))

pub returns-in_default-clause-more : goal.returns-in_default-clause-more
returns-in_default-clause-more c = λ es told.
    entry-nowhere c.args.board.now es (entry_seen c.args.entry.now) c.args.roots.now told (none
    (root_told c.args.board.now (entry_seen c.args.entry.now)) refl)
  where
    none : (o : Option ℕ) → root_told c.args.board.now (entry_seen c.args.entry.now) ≡ o → root_told c.args.board.now
        (entry_seen c.args.entry.now) ≡ None
    none None is = is
    none (Some k) is = absurd (c.in_default.not-Some k (c.root_told.ensures ∙ is))

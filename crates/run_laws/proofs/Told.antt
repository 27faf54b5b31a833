-- No section of a run's report has a line `journal`. The induction goes over the callers.
use Rattle.run_laws.proofs.Cited.{ℕ, List, [], ◌∷◌, map, reverse, Option, Some, None, refl, All, slice_get, All-nil, All-cons, Entry, Reply}
use Rattle.run_laws.proofs.Cited.{BoardView, replies, text_of, commands_of, script_on, printed_by}
use Rattle.std.specs.Option.{option_map_or}
use Rattle.bus_journal.specs.Reports.{IsSectionLine, HasNoJournalLine}
use Rattle.caller_core.specs.Scripts.{section_text}
use Rattle.caller_core.specs.Sections.{SectionsHaveNoJournalLine}

module _ (none : SectionsHaveNoJournalLine) (b : BoardView) (texts : List (List ℕ)) where
  printed_whole : (c : ℕ) (rs : List Reply) → HasNoJournalLine (printed_by b texts c rs)
  printed_whole c rs = by (slice_get texts c)
    where
      by : (o : Option (List ℕ)) → HasNoJournalLine (option_map_or (λ text. section_text (commands_of (script_on b text)) rs) o [])
      by None = record { lines = []; text_is = refl; others = All-nil IsSectionLine }
      by (Some text) = none (script_on b text) rs

  pub sections-whole : (es : List Entry) (cs : List ℕ) → All HasNoJournalLine (map (text_of (printed_by b texts) es) cs)
  sections-whole es [] = All-nil HasNoJournalLine
  sections-whole es (c ∷ cs) =
      All-cons HasNoJournalLine (text_of (printed_by b texts) es c) (map (text_of (printed_by b texts) es) cs)
      (printed_whole c (replies (reverse es) c))
      (sections-whole es cs)

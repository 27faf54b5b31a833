-- The lines of several journals, and what a text leaves on a sink that takes a part of it.
use Rattle.std.specs.Prelude.{◌≡◌, ℕ, ◌≤◌, List, ◌++◌, take, length, flat_map}
use Rattle.bus_spec.specs.Report.{ended_line}
use Rattle.bus_journal.specs.View.{JournalView}

-- their lines, one journal after the other
abbrev pub lines_of : List JournalView → List ℕ
lines_of journals = flat_map (λ (j : JournalView). flat_map ended_line j.entries) journals

-- so many bytes of the text stand behind what was there
abbrev pub HasFront : List ℕ → List ℕ → List ℕ → Type 0
HasFront before text now = (n : ℕ) × (n ≤ length text) × (now ≡ before ++ take n text)

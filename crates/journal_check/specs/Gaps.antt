-- The gaps of each root that entries tell, one after the other.
use Rattle.std.specs.Prelude.{◌≡◌, ℕ, List, ◌++◌, Option, Some, None, slice_get}
use Rattle.i2c_base.specs.declared.entry.Entry.{Entry}
use Rattle.i2c_base.specs.declared.entry.Entry.TheVariants as entry
use Rattle.i2c_base.specs.Board.{BoardView}
use Rattle.i2c_spec.specs.Tree.{root_of, home_of_mux}
use Rattle.bus_spec.specs.Readings.{of_message}
use Rattle.check_laws.specs.Failed.{gaps_from, gaps_told}
use Rattle.bus_journal.specs.Told.{entries_of}
use Rattle.journal_check.specs.declared.gaps.RootGaps.{RootGaps}

-- the root on whose port an entry makes calls
abbrev pub root_told : BoardView → Entry → Option ℕ
root_told b (entry.Line c mux level failed) = Some (root_of b (home_of_mux b mux))
root_told b e = of_message None (λ m. Some (root_of b m.bus)) e

-- what the lines of entries tell of failed calls, by root
abbrev pub gaps_by : BoardView → List ℕ → ℕ → List ℕ
gaps_by b lines r = gaps_told b (entries_of lines) r

-- these are the gaps that the entries so far tell of a root, and the calls since the last one that failed
abbrev pub IsGapsOf : BoardView → ℕ → List Entry → RootGaps → Type 0
IsGapsOf b r es x = (later : List Entry) → x.gaps.items ++ gaps_from b r x.since later ≡ gaps_told b (es ++ later) r

abbrev pub AreGapsOf : BoardView → List Entry → List RootGaps → Type 0
AreGapsOf b es roots = (r : ℕ) (x : RootGaps) → slice_get roots r ≡ Some x → IsGapsOf b r es x

-- The report of a run: a section for each caller, the journal, and the line that ends it.
use Rattle.std.specs.Prelude.{ℕ, ◌+◌, List, [], ◌∷◌, ◌++◌, codes, map, reverse}
use Rattle.std.specs.List.{flat_map, range_with_len}
use Rattle.std.specs.Fmt.{decimal}
use Rattle.i2c_base.specs.declared.entry.Entry.{Entry}
use Rattle.i2c_base.specs.declared.reply.Reply.{Reply}
use Rattle.bus_spec.specs.Lines.{entry_line}
use Rattle.bus_spec.specs.Readings.{replies}

-- the callers' sections, each under its number, from c on
abbrev pub sections : ℕ → List (List ℕ) → List ℕ
sections c [] = []
sections c (text ∷ texts) = (codes "caller " ++ (decimal c ++ (10 ∷ text))) ++ sections (c + 1) texts

abbrev pub ended_line : Entry → List ℕ
ended_line e = entry_line e ++ 10 ∷ []

-- the callers' texts and the journal's entries, the oldest first
abbrev pub report_lines : List (List ℕ) → List Entry → List ℕ
report_lines texts entries = sections 0 texts ++ (codes "journal\n" ++ (flat_map ended_line entries ++ codes "end\n"))

-- what a caller prints for the replies that the journal tells for it, the oldest first
abbrev pub text_of : (ℕ → List Reply → List ℕ) → List Entry → ℕ → List ℕ
text_of printed entries c = printed c (replies (reverse entries) c)

-- the report of so many callers is a function of the journal alone
abbrev pub report_of : (ℕ → List Reply → List ℕ) → ℕ → List Entry → List ℕ
report_of printed callers entries = report_lines (map (text_of printed entries) (range_with_len 0 callers)) entries

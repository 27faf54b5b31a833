-- A command that asks for nothing, and whose lines are known once it is opened.
use Rattle.std.specs.Prelude.{ℕ, ◌==◌, false, List, [], ◌∷◌, length, if◌then◌else◌}
use Rattle.std.specs.List.{flat_map}
use Rattle.bus_journal.specs.Reports.{line_ended}
use Rattle.i2c_base.specs.Transfer.{TransferView}
use Rattle.i2c_base.specs.declared.transfer.TransferKind.TheVariants.{Plain}
use Rattle.tools.specs.Dialogues.{Dialogue}
use Rattle.tools.specs.Words.{onto_first}

-- the lines of a text, of which each ends with a line feed
abbrev pub whole_lines : List ℕ → List (List ℕ)
whole_lines [] = []
whole_lines (b ∷ bs) = if b == 10 then [] ∷ whole_lines bs else onto_first b (whole_lines bs)

-- what would be asked for at a place, of which there is none
abbrev pub no_transfer : TransferView
no_transfer = record { bus = 0; kind = Plain; force = false; msgs = []; out = [] }

-- what it says to the bus
abbrev pub says : List (List ℕ) → Dialogue
says lines = record { places = 0; at = λ k. no_transfer; skips = λ k r. 0; lines = λ rs. lines; most = length (flat_map line_ended lines) }

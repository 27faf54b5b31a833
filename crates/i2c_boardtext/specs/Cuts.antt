-- Runs with their numbers cut to the widths of a run's fields. Where the runs are as listed, they are the runs.
use Rattle.std.specs.Prelude.{ℕ, ◌%◌, List, [], ◌∷◌, map, Option}
use Rattle.toml.specs.Data.{Data}
use Rattle.i2c_base.specs.Board.{RunView}
use Rattle.i2c_boardtext.specs.Items.{elements, number}
use Rattle.i2c_boardtext.specs.Values.{elements_in}

abbrev pub cut_byte : Data → ℕ
cut_byte d = number d % 256

abbrev pub cut_run_of : List Data → RunView
cut_run_of [] = record { start = 0; bytes = [] }
cut_run_of (start ∷ bytes) = record { start = number start % 65536; bytes = map cut_byte bytes }

abbrev pub cut_run : Data → RunView
cut_run d = cut_run_of (elements d)

abbrev pub cut_runs_in : Option Data → List RunView
cut_runs_in d = map cut_run (elements_in d)

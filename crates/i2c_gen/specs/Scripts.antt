-- The generated scripts, one for each caller, and the schedule.
use Rattle.std.specs.Prelude.{ℕ, zero, suc, ◌+◌, ◌*◌, ◌≤◌, List, ◌++◌, map, codes}
use Rattle.std.specs.Fmt.{decimal}
use Rattle.std.specs.List.{range_with_len, flat_map}
use Rattle.i2c_base.specs.Limits.{MOST_ROOTS, MOST_CALLERS}
use Rattle.i2c_gen.specs.Boards.{bus_of}
use Rattle.i2c_gen.specs.Draws.{draw}
use Rattle.i2c_gen.specs.declared.plan.Plan.{Plan}

-- a script has at most so many lines
abbrev pub MOST_LINES : ℕ
MOST_LINES = 1000

-- a plan that there is a board and scripts for
pub record IsPlan (p : Plan) : Type 0 where
  pub some_root : 1 ≤ p.roots
  pub most_roots : p.roots ≤ MOST_ROOTS
  pub some_line : 1 ≤ p.lines
  pub most_lines : p.lines ≤ MOST_LINES

-- a line by its operation: a byte of the EEPROM is read, or written, or the temperature is read
abbrev pub line_by : (op bus reg val : ℕ) → List ℕ
line_by zero bus reg val = codes "i2cget -y " ++ (decimal bus ++ (codes " 0x50 " ++ (decimal reg ++ codes "\n")))
line_by (suc zero) bus reg val =
    codes "i2cset -y " ++ (decimal bus ++ (codes " 0x50 " ++ (decimal reg ++ (codes " " ++ (decimal val ++ codes "\n")))))
line_by (suc (suc op)) bus reg val = codes "i2cget -y " ++ (decimal bus ++ codes " 0x48 0 w\n")

-- line n of all scripts, from 0, by five draws in this order: root, channel, operation, register, value
abbrev pub line_of : Plan → (n : ℕ) → List ℕ
line_of p n = line_by (draw p.seed (5 * n + 2) 3)
    (bus_of p.roots (draw p.seed (5 * n) p.roots) (draw p.seed (5 * n + 1) 8))
    (draw p.seed (5 * n + 3) 256)
    (draw p.seed (5 * n + 4) 256)

-- the script of a caller: its lines come after those of the callers before it
abbrev pub script_of : Plan → (caller : ℕ) → List ℕ
script_of p caller = flat_map (line_of p) (range_with_len (caller * p.lines) p.lines)

abbrev pub scripts_of : Plan → List (List ℕ)
scripts_of p = map (script_of p) (range_with_len 0 MOST_CALLERS)

-- the draws after those of all lines are the callers of the schedule
abbrev pub lines_in : Plan → ℕ
lines_in p = MOST_CALLERS * p.lines

abbrev pub schedule_of : Plan → List ℕ
schedule_of p = map (λ k. draw p.seed k MOST_CALLERS) (range_with_len (5 * lines_in p) (lines_in p))

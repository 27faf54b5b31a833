-- The text of a value change dump (IEEE Std 1364-2005, section 18), of the levels of two wires behind each step, as numbers.
use Rattle.std.specs.Prelude.{ℕ, ◌+◌, ◌/◌, ◌%◌, ◌==◌, min, Bool, ◌&&◌, List, [], ◌∷◌, ◌++◌, codes, if◌then◌else◌}
use Rattle.std.specs.Fmt.{decimal}
use Rattle.ports.specs.Causes.{MOST, counted}

-- a step of the controller is told as 1,250 ns, up to 2^64 - 1 ns
abbrev pub STEP_NS : ℕ
STEP_NS = 1250

abbrev pub later : ℕ → ℕ
later t = min (t + STEP_NS) MOST

-- of the number of the levels, 1 where SCL is high, and 2 where SDA is
abbrev pub BOTH_HIGH : ℕ
BOTH_HIGH = 3

-- SDA falls while SCL is high: a start (UM10204 section 3.1.4)
abbrev pub is_start : (was is : ℕ) → Bool
is_start was is = (was == BOTH_HIGH) && (is == 1)

abbrev pub starts_by : (was is : ℕ) → ℕ → ℕ
starts_by was is n = if is_start was is then counted n else n

abbrev pub time_line : ℕ → List ℕ
time_line t = codes "#" ++ (decimal t ++ codes "\n")

-- a start by its number, from 1, and its time
abbrev pub start_line : (time starts : ℕ) → List ℕ
start_line t n = codes "$comment start " ++ (decimal n ++ (codes " at " ++ (decimal t ++ codes " $end\n")))

abbrev pub started_line : (was is : ℕ) → (time starts : ℕ) → List ℕ
started_line was is t n = if is_start was is then start_line t n else []

-- the starts among these steps, behind those levels, that time and so many starts
abbrev pub starts_from : (was time starts : ℕ) → List ℕ → List ℕ
starts_from was time starts [] = []
starts_from was time starts (is ∷ steps) =
    started_line was is (later time) (starts_by was is starts) ++ starts_from is (later time) (starts_by was is starts) steps

-- a wire by its letter, ! for SCL and " for SDA, where its level isn't what it was
abbrev pub scl_line : (was is : ℕ) → List ℕ
scl_line was is = if (was % 2) == (is % 2) then [] else if (is % 2) == 1 then codes "1!\n" else codes "0!\n"

abbrev pub sda_line : (was is : ℕ) → List ℕ
sda_line was is = if (was / 2) == (is / 2) then [] else if (is / 2) == 1 then codes "1\"\n" else codes "0\"\n"

-- a step at which a level changes; one at which none does has no line
abbrev pub change_lines : (was is : ℕ) → (time : ℕ) → List ℕ
change_lines was is time = if was == is then [] else time_line time ++ (scl_line was is ++ sda_line was is)

-- these steps, behind those levels and that time; and the end of the last, which is a step long
abbrev pub lines_from : (was time : ℕ) → List ℕ → List ℕ
lines_from was time [] = time_line (later time)
lines_from was time (is ∷ steps) = change_lines was is (later time) ++ lines_from is (later time) steps

-- a root by its number, and its wires
abbrev pub scope_text : ℕ → List ℕ
scope_text root = codes "$scope module root" ++ (decimal root ++ codes " $end\n")

abbrev pub wires_text : List ℕ
wires_text = codes "$var wire 1 ! scl $end\n$var wire 1 \" sda $end\n$upscope $end\n"

abbrev pub head_of : ℕ → List ℕ
head_of root = codes "$timescale 1 ns $end\n" ++ (scope_text root ++ wires_text)

-- the wires are high before the first step
abbrev pub defined_text : List ℕ
defined_text = codes "$enddefinitions $end\n#0\n$dumpvars\n1!\n1\"\n$end\n"

-- the definitions, with a comment for each start, and then the changes
abbrev pub dump_of : (root : ℕ) → (steps : List ℕ) → List ℕ
dump_of root steps = head_of root ++ (starts_from BOTH_HIGH 0 0 steps ++ (defined_text ++ lines_from BOTH_HIGH 0 steps))

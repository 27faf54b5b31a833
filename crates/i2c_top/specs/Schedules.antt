-- A schedule: words between white space, each the number of the caller that is to step.
use Rattle.std.specs.Prelude.{⊤, ◌≡◌, ◌↔◌, ℕ, ◌+◌, ◌-◌, ◌<◌, ◌≤◌, ◌==◌, nat_le, nat_lt, Bool, ◌&&◌, ◌||◌, List, [], ◌∷◌, ◌++◌, Option, Some, None, Result, Ok, Err, if◌then◌else◌}
use Rattle.std.specs.Fmt.{decimal}
use Rattle.i2c_base.specs.Limits.{MOST_CALLERS}
use Rattle.tools.specs.Words.{words_between}
use Rattle.i2c_top.specs.declared.schedule.ScheduleFault.{ScheduleFault}
use Rattle.i2c_top.specs.declared.schedule.ScheduleFault.TheVariants as schedule_fault

-- white space: a space, a tab, a line feed and a carriage return
abbrev pub is_white : ℕ → Bool
is_white b = (b == 32) || (b == 9) || (b == 10) || (b == 13)

-- the words of a schedule: runs of bytes between white space
abbrev pub entries_of : List ℕ → List (List ℕ)
entries_of text = words_between is_white text

-- there are so few callers that each number is one digit: the caller that a word names, among so many
abbrev pub caller_named : ℕ → List ℕ → Option ℕ
caller_named callers (digit ∷ []) = if nat_le 48 digit && nat_lt (digit - 48) callers then Some (digit - 48) else None
caller_named callers word = None

-- so a word names a caller exactly where it is that caller's number in decimal digits
abbrev pub WordsAreNumbers : Type 0
WordsAreNumbers = (callers caller : ℕ) (word : List ℕ) → callers ≤ MOST_CALLERS
    → (caller_named callers word ≡ Some caller) ↔ ((caller < callers) × (word ≡ decimal caller))

-- a schedule has at most so many words
abbrev pub MOST_ENTRIES : ℕ
MOST_ENTRIES = 1000000

-- the word with this number, from 0, names this caller; one word too many names none
abbrev pub caller_at : ℕ → ℕ → List ℕ → Option ℕ
caller_at callers index word = if nat_le MOST_ENTRIES index then None else caller_named callers word

-- callers in front of what is read behind them
abbrev pub behind_callers : List ℕ → Result (List ℕ) ℕ → Result (List ℕ) ℕ
behind_callers cs (Ok ds) = Ok (cs ++ ds)
behind_callers cs (Err index) = Err index

abbrev pub behind_entry : ℕ → Option ℕ → Result (List ℕ) ℕ → Result (List ℕ) ℕ
behind_entry index None more = Err index
behind_entry index (Some caller) more = behind_callers (caller ∷ []) more

-- the callers that these words name, of which the first has this number; or the number of the first that names none
abbrev pub callers_from : ℕ → ℕ → List (List ℕ) → Result (List ℕ) ℕ
callers_from callers index [] = Ok []
callers_from callers index (word ∷ words) = behind_entry index (caller_at callers index word) (callers_from callers (index + 1) words)

-- the callers of a schedule's text, among so many
abbrev pub schedule_read : ℕ → List ℕ → Result (List ℕ) ℕ
schedule_read callers text = callers_from callers 0 (entries_of text)

-- a fault is the number of the first word that names none, or being out of memory
abbrev pub IsScheduleFault : Result (List ℕ) ℕ → ScheduleFault → Type 0
IsScheduleFault r (schedule_fault.Word index) = r ≡ Err index
IsScheduleFault r schedule_fault.Memory = ⊤

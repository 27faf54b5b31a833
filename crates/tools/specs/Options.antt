-- What several lines have in common: their options, BUS, ADDR and REG.
use Rattle.std.specs.Prelude.{ℕ, ◌+◌, Bool, true, false, List, Result, Ok, Err, if◌then◌else◌, codes, refl}
use Rattle.i2c_base.specs.Limits.{FIRST_ADDRESS, LAST_ADDRESS}
use Rattle.tools.specs.Grammars.{Class, Grammar, word, word_or}
use Rattle.tools.specs.LineSets.{Word}
use Rattle.tools.specs.Numbers.{number_in}
use Rattle.tools.specs.Readers.{is_at}

-- BUS, ADDR and REG
abbrev pub bus_number : Class ℕ
bus_number = record { of = number_in 0 65535; sample = codes "0"; means = 0; fits = refl }

abbrev pub address : Class ℕ
address = record { of = number_in FIRST_ADDRESS LAST_ADDRESS; sample = codes "8"; means = 8; fits = refl }

abbrev pub byte : Class ℕ
byte = record { of = number_in 0 255; sample = codes "0"; means = 0; fits = refl }

-- `-f` or not, and `-y`, in any order, and what follows them
unfoldable pub force_and_yes : {A : Type 0} → (Bool → Grammar A) → Grammar A
force_and_yes k =
    word_or (codes "-f") (word (codes "-y") (k true))
    (word (codes "-y") (word_or (codes "-f") (k true) (k false)))

-- the place after a `-y` that stands at i, `-f` being before it
abbrev pub yes_at : List Word → ℕ → Result (Bool × ℕ) ℕ
yes_at ws i = if is_at (codes "-y") ws i then Ok (true, i + 1) else Err i

-- whether `-f` stands at i or after it, and the place after the options
unfoldable pub options_at : List Word → ℕ → Result (Bool × ℕ) ℕ
options_at ws i =
    if is_at (codes "-f") ws i then yes_at ws (i + 1)
    else if is_at (codes "-y") ws i then (if is_at (codes "-f") ws (i + 1) then Ok (true, i + 1 + 1) else Ok (false, i + 1))
    else Err i

-- The numbers that a board says of itself, of its muxes and devices: the key of each, its range, and its value where the board
-- file doesn't say it. What reads, tests or keeps such a number takes its range from its key. The keys of a kind of device
-- stand with the kind's table.
use Rattle.std.specs.Prelude.{ℕ, ◌≤◌, List, codes}
use Rattle.i2c_base.specs.Limits.{MOST_CHANNELS, POLLS, FIRST_ADDRESS, LAST_ADDRESS}

pub record NumberKey : Type 0 where
  pub name : List ℕ
  pub low : ℕ
  pub high : ℕ
  pub default : ℕ

abbrev pub IsFor : NumberKey → ℕ → Type 0
IsFor key n = (key.low ≤ n) × (n ≤ key.high)

-- of a board: its version, which the board file has to say
abbrev pub version_key : NumberKey
version_key = record { name = codes "version"; low = 1; high = 2; default = 1 }

-- of a target: its address, which the board file has to say
abbrev pub address_key : NumberKey
address_key = record { name = codes "address"; low = FIRST_ADDRESS; high = LAST_ADDRESS; default = FIRST_ADDRESS }

-- of a mux that is switched by a line: its channels, which the board file has to say
abbrev pub channels_key : NumberKey
channels_key = record { name = codes "channels"; low = 1; high = MOST_CHANNELS; default = 1 }

-- of an arbitrator: how often it is found with its other controller
abbrev pub foreign_key : NumberKey
foreign_key = record { name = codes "foreign"; low = 0; high = POLLS; default = 0 }

-- The numbers of a board file, each by its key.
use Rattle.std.specs.Prelude.{ℕ, true, false, Option, Some, None, if◌then◌else◌}
use Rattle.toml.specs.Data.{Data, Members, get_member}
use Rattle.i2c_spec.specs.Numbers.{NumberKey}
use Rattle.i2c_boardtext.specs.Items.{number}
use Rattle.i2c_boardtext.specs.Rules.{KeyRule, is_in}
use Rattle.i2c_boardtext.specs.declared.numbers.NumberKey.{NumberKey as KeyOfCode}
use Rattle.i2c_boardtext.specs.declared.rule.Test.TheVariants.{Range}

-- the key that one of the code stands for
abbrev pub number_key : KeyOfCode → NumberKey
number_key k = record { name = k.name.now; low = k.low; high = k.high; default = k.default }

abbrev pub number_or : ℕ → Option Data → ℕ
number_or default None = default
number_or default (Some d) = number d

-- a number in the key's range; any other value, and none, is its default
abbrev pub number_for : NumberKey → Option Data → ℕ
number_for key None = key.default
number_for key (Some d) = if is_in key.low key.high d then number d else key.default

-- what a table says at the key
abbrev pub number_at : NumberKey → Members → ℕ
number_at key ms = number_for key (get_member key.name ms)

-- a number that may be missing, and one that the table has to say
abbrev pub may_say : NumberKey → KeyRule
may_say key = record { name = key.name; needed = false; test = Range key.low key.high }

abbrev pub has_to_say : NumberKey → KeyRule
has_to_say key = record { name = key.name; needed = true; test = Range key.low key.high }

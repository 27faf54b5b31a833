-- What is wrong with a table, by a list of rules, one for each key that it may have.
use Rattle.std.specs.Prelude.{ℕ, ◌+◌, ◌==◌, nat_le, ℤ, pos, int_le, Bool, true, false, not, ◌&&◌, ◌||◌, List, [], ◌∷◌, length, Option, Some, None, is_some, option_map, unwrap_or, bytes_eq, if◌then◌else◌}
use Rattle.std.specs.List.{list_all, list_any}
use Rattle.toml.specs.Data.{Data, as_integer, as_bool, as_table, Members, no_members, member, get_member}
use Rattle.i2c_boardtext.specs.Items.{items_in, elements, number, named_in}
use Rattle.i2c_boardtext.specs.Names.{offers_named, lock_named, idle_named}
use Rattle.i2c_boardtext.specs.declared.fault.TableFault.{TableFault}
use Rattle.i2c_boardtext.specs.declared.fault.TableFault.TheVariants as fault
use Rattle.i2c_boardtext.specs.declared.rule.Rule.{Rule}
use Rattle.i2c_boardtext.specs.declared.rule.Test.{Test}
use Rattle.i2c_boardtext.specs.declared.rule.Test.TheVariants.{Kind, Range, Flag, Offers, Lock, Idle, Runs, Tables, Pairs}

-- a key: its name, whether it is required, and how its value is tested
pub record KeyRule : Type 0 where
  pub name : List ℕ
  pub needed : Bool
  pub test : Test

-- a required key, and one that may be missing
abbrev pub needs : List ℕ → Test → KeyRule
needs name test = record { name = name; needed = true; test = test }

abbrev pub may_have : List ℕ → Test → KeyRule
may_have name test = record { name = name; needed = false; test = test }

-- the key that a rule of the code stands for
abbrev pub key_rule : Rule → KeyRule
key_rule r = record { name = r.name.now; needed = r.needed; test = r.test }

-- an integer from the first number to the second
abbrev pub is_from_to : ℕ → ℕ → ℤ → Bool
is_from_to low high z = int_le (pos low) z && int_le z (pos high)

abbrev pub is_in : ℕ → ℕ → Data → Bool
is_in low high d = unwrap_or (option_map (is_from_to low high) (as_integer d)) false

-- a start and at least one byte, which end within a memory of this size
abbrev pub is_run_of : ℕ → List Data → Bool
is_run_of size [] = false
is_run_of size (start ∷ bytes) =
    is_in 0 size start && (nat_le 1 (length bytes) && (list_all (is_in 0 255) bytes && nat_le (number start + length bytes) size))

abbrev pub is_run : ℕ → Data → Bool
is_run size d = is_run_of size (elements d)

abbrev pub is_array_of : (Data → Bool) → Data → Bool
is_array_of test d = unwrap_or (option_map (list_all test) (items_in d)) false

-- two integers from the first number to the second
abbrev pub is_pair : ℕ → ℕ → Data → Bool
is_pair low high d = (length (elements d) == 2) && list_all (is_in low high) (elements d)

abbrev pub are_pairs : ℕ → ℕ → Data → Bool
are_pairs low high d = nat_le 1 (length (elements d)) && list_all (is_pair low high) (elements d)

-- the value is as listed
abbrev pub fits : Test → Data → Bool
fits Kind d = true
fits (Range low high) d = is_in low high d
fits Flag d = is_some (as_bool d)
fits Offers d = is_some (named_in offers_named d)
fits Lock d = is_some (named_in lock_named d)
fits Idle d = is_some (named_in idle_named d)
fits (Runs size) d = is_array_of (is_run size) d
fits Tables d = is_array_of (λ x. is_some (as_table x)) d
fits (Pairs low high) d = are_pairs low high d

abbrev pub fits_if_there : Test → Option Data → Bool
fits_if_there test None = true
fits_if_there test (Some d) = fits test d

-- some rule is for the key
abbrev pub is_listed : List KeyRule → List ℕ → Bool
is_listed rules key = list_any (λ r. bytes_eq key r.name) rules

abbrev pub are_listed : List KeyRule → Members → Bool
are_listed rules no_members = true
are_listed rules (member key d ms) = is_listed rules key && are_listed rules ms

-- the key is there, or needn't be
abbrev pub is_there : Members → KeyRule → Bool
is_there ms r = not r.needed || is_some (get_member r.name ms)

-- the value at the key is as listed, or missing
abbrev pub is_fit : Members → KeyRule → Bool
is_fit ms r = fits_if_there r.test (get_member r.name ms)

-- what is wrong with a table: a key, or else a value
abbrev pub table_fault : List KeyRule → Members → Option TableFault
table_fault rules ms =
    if not (are_listed rules ms && list_all (is_there ms) rules) then Some fault.Key
    else if not (list_all (is_fit ms) rules) then Some fault.Value
    else None

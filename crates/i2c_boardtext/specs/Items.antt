-- What the values of a table are to the tests: the elements of an array, the members of a table, numbers and words.
use Rattle.std.specs.Prelude.{ℕ, ℤ, pos, negsuc, Bool, false, List, [], ◌∷◌, Option, option_map, option_and_then, unwrap_or}
use Rattle.toml.specs.Data.{Data, Items, no_items, item, Members, no_members, as_array, as_table, as_integer, as_bool, as_str}

abbrev pub list_of : Items → List Data
list_of no_items = []
list_of (item d ds) = d ∷ list_of ds

-- the elements of an array; any other value has none
abbrev pub items_in : Data → Option (List Data)
items_in d = option_map list_of (as_array d)

abbrev pub elements : Data → List Data
elements d = unwrap_or (items_in d) []

-- the members of a table; any other value has none
abbrev pub members_in : Data → Members
members_in d = unwrap_or (as_table d) no_members

-- an integer that isn't negative; any other value is 0
abbrev pub nat_of : ℤ → ℕ
nat_of (pos n) = n
nat_of (negsuc n) = 0

abbrev pub number : Data → ℕ
number d = unwrap_or (option_map nat_of (as_integer d)) 0

-- what a text stands for, where it is known
abbrev pub named_in : {X : Type 0} → (List ℕ → Option X) → Data → Option X
named_in named d = option_and_then named (as_str d)

-- a flag is false where it is missing
abbrev pub flag_in : Option Data → Bool
flag_in d = unwrap_or (option_and_then as_bool d) false

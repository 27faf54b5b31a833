-- The levels of SCL and SDA behind each step of a controller, and what they show to whom sees nothing else.
use Rattle.std.specs.Prelude.{ℕ, ◌+◌, Bool, true, List, [], ◌∷◌, cond}
use Rattle.wire_spec.specs.Bus.{Bus, Sign, Seen, scl_level, sda_level, pulled, looked}
use Rattle.wire_spec.specs.Rows.{sign_of}
use Rattle.wire_spec.specs.Sites.{NodeState}
use Rattle.i2c_bits.specs.Wiring.{Rooted, the_table, mask_at, lined}

-- true is high
pub record Levels : Type 0 where
  pub scl : Bool
  pub sda : Bool

abbrev pub levels : Bool → Bool → Levels
levels scl sda = record { scl = scl; sda = sda }

-- those of free lines (UM10204 section 3.1.1)
abbrev pub both_high : Levels
both_high = levels true true

abbrev pub levels_of : Bus NodeState → Levels
levels_of w = levels (scl_level w) (sda_level the_table w)

-- as a number: 1 where SCL is high, and 2 where SDA is
abbrev pub code_of : Levels → ℕ
code_of l = cond l.scl 1 0 + cond l.sda 2 0

-- a step of a controller: it pulls each line or lets it go, looks at SCL, or sets the line of a mux while both lines are let go
pub data Doing : Type 0 where
  Pull : (scl sda : Bool) → Doing
  Look : Doing
  Set : (mux level : ℕ) → Doing

-- what that does to the lines of a root
abbrev pub done : Rooted → Bus NodeState → Doing → Bus NodeState
done k w (Pull scl sda) = pulled the_table (mask_at k) w scl sda
done k w Look = looked the_table w
done k w (Set mux level) = lined (mask_at k) mux level w

-- the lines behind these steps, and the levels behind each of them
abbrev pub along : Rooted → Bus NodeState → List Doing → Bus NodeState
along k w [] = w
along k w (d ∷ ds) = along k (done k w d) ds

abbrev pub levels_along : Rooted → Bus NodeState → List Doing → List Levels
levels_along k w [] = []
levels_along k w (d ∷ ds) = levels_of (done k w d) ∷ levels_along k (done k w d) ds

-- what is to be seen of one step, by the levels before and behind it
abbrev pub sign : (before behind : Levels) → List Sign
sign l m = sign_of l.scl m.scl l.sda m.sda

-- these signs more were seen
abbrev pub more_seen : List Sign → Seen → Seen
more_seen [] c = c
more_seen (s ∷ ss) c = more_seen ss (s ∷ c)

-- what levels show, behind those, to whom has seen this: the last of it first
abbrev pub showing : Levels → Seen → List Levels → Seen
showing l c [] = c
showing l c (m ∷ ms) = showing m (more_seen (sign l m) c) ms

-- those behind the last step
abbrev pub last_of : Levels → List Levels → Levels
last_of l [] = l
last_of l (m ∷ ms) = last_of m ms

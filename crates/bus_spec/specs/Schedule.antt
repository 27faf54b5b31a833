-- When a journal follows a schedule (this project's own): a list of callers' numbers, each of which steps where it
-- can; after the last of them always the least that can.
use Rattle.std.specs.Prelude.{◌≡◌, ℕ, ◌<◌, ◌==◌, Bool, true, false, not, ◌&&◌, List, [], ◌∷◌, ◌++◌, reverse, Option, Some, None, if◌then◌else◌, MatchBool}
use Rattle.std.specs.List.{find}
use Rattle.std.specs.Option.{option_map_or}
use Rattle.i2c_base.specs.declared.entry.Entry.{Entry}
use Rattle.i2c_base.specs.declared.entry.Entry.TheVariants as entry
use Rattle.bus_spec.specs.Readings.{caller_of, holder}
use Rattle.bus_spec.specs.Legal.{is_stepping}

-- a step: an entry, with the settle of the same caller that stands directly after a message or a line step
pub record Turn : Type 0 where
  pub caller : ℕ
  pub entries : List Entry

abbrev pub is_settle : Entry → Bool
is_settle (entry.Settle c r cut) = true
is_settle e = false

abbrev pub turn_of : Entry → Turn
turn_of e = record { caller = caller_of e; entries = e ∷ [] }

-- one entry in front of steps: it takes a lone settle of its caller with it
abbrev pub joins : Entry → List Entry → ℕ → Bool
joins e [] c = false
joins e (s ∷ ss) c = is_stepping e && (is_settle s && (caller_of e == c))

abbrev pub with_entry : Entry → List Turn → List Turn
with_entry e [] = turn_of e ∷ []
with_entry e (t ∷ ts) =
    if joins e t.entries t.caller then (record { caller = caller_of e; entries = e ∷ t.entries }) ∷ ts else turn_of e ∷ t ∷ ts

-- the steps of a journal, in order
abbrev pub turns : List Entry → List Turn
turns [] = []
turns (e ∷ es) = with_entry e (turns es)

-- a step waits where it takes a lock that someone has
abbrev pub is_taken : Option ℕ → Bool
is_taken None = false
is_taken (Some c) = true

abbrev pub waits_for : List Entry → List Entry → Bool
waits_for past [] = false
waits_for past (entry.Take c l ∷ es) = is_taken (holder past l)
waits_for past (e ∷ es) = false

-- after this past, with these steps to come: a caller with none is over, one whose next step waits isn't ready
abbrev pub is_ready : List Entry → List Turn → ℕ → Bool
is_ready past later c = option_map_or (λ t. not (waits_for past t.entries)) (find (λ t. t.caller == c) later) false

abbrev pub past_after : List Entry → Turn → List Entry
past_after past t = reverse t.entries ++ past

-- after the last word, each step is of the least caller that is ready
abbrev pub FollowsRest : List Entry → List Turn → Type 0
FollowsRest past [] = Unit {0}
FollowsRest past (t ∷ ts) =
    (is_ready past (t ∷ ts) t.caller ≡ true) × ((c : ℕ) → c < t.caller → is_ready past (t ∷ ts) c ≡ false)
    × FollowsRest (past_after past t) ts

-- each word is a step of that caller where it is ready, and none where it isn't
abbrev pub FollowsWords : List ℕ → List Entry → List Turn → Type 0
FollowsWords [] past later = FollowsRest past later
FollowsWords (w ∷ ws) past [] = FollowsWords ws past []
FollowsWords (w ∷ ws) past (t ∷ ts) =
    MatchBool (is_ready past (t ∷ ts) w) ((t.caller ≡ w) × FollowsWords ws (past_after past t) ts) (FollowsWords ws past (t ∷ ts))

-- a journal, in order, follows a schedule
abbrev pub Follows : List ℕ → List Entry → Type 0
Follows words journal = FollowsWords words [] (turns journal)

-- Who is joined, of targets of which that isn't kept: it is read from the board's tree and the chips, and kept of those alone that a
-- message reaches.
use Rattle.std.specs.Prelude.{◌≡◌, ◌&&◌, ℕ, Bool, true, List, cond, length, slice_get, Some}
use Rattle.wire_spec.specs.Wires.{Bit}
use Rattle.wire_spec.specs.Sites.{NodeState}
use Rattle.i2c_bits.specs.Wiring.{Rooted}
use Rattle.bus_lines.specs.Edges.{joined_at}
use Rattle.bus_lines.specs.Joins.{PlaceView, states_on, joins_by}
use Rattle.bus_lines.specs.LinesViews.{AreTargets}
use Rattle.bus_lines.specs.Numbers.{NumbersView, is_among}
use Rattle.bus_lines.specs.Units.{RegisterView, by_number, IsIndex}

-- a target with whether it is joined
abbrev pub known : Bool → Bit NodeState → Bit NodeState
known joined b = record b { site = record b.site { joined = joined } }

-- all of them, by number
abbrev pub knows : (ℕ → Bool) → List (Bit NodeState) → List (Bit NodeState)
knows f bs = by_number (λ k b. known (f k) b) 0 bs

-- all of them as the tree and the chips have it
abbrev pub known_on : List PlaceView → List (Bit NodeState) → List (Bit NodeState)
known_on ps bs = knows (joins_by ps (states_on bs)) bs

-- those alone that have one of these numbers
abbrev pub known_of : List ℕ → (ℕ → Bool) → ℕ → Bit NodeState → Bit NodeState
known_of ns f k b = cond (is_among ns k) (known (f k) b) b

-- of these it is kept whether they are joined
abbrev pub AreKnown : List ℕ → List PlaceView → List (Bit NodeState) → Type 0
AreKnown ns ps bs = (k : ℕ) (b : Bit NodeState) → slice_get bs k ≡ Some b → is_among ns k ≡ true
    → b.site.joined ≡ joins_by ps (states_on bs) k

-- the list has those of these numbers whose targets are joined
abbrev pub ListsJoined : List ℕ → List ℕ → List (Bit NodeState) → Type 0
ListsJoined ns list bs = (k : ℕ) → is_among list k ≡ (is_among ns k && joined_at bs k)

-- the targets of a root as they are kept: once it is known of all who is joined they are as the lists of numbers say, and it is
-- kept of those that are in the message, and of those that it has reached
pub record AreKept (k : Rooted) (ps : List PlaceView) (held : Bool) (address : RegisterView) (live started : NumbersView)
    (at : List (List ℕ)) (bs : List (Bit NodeState)) : Type 0 where
  pub are : AreTargets k ps held address live started at (known_on ps bs)
  pub in_message : AreKnown live.items ps bs
  pub reached : AreKnown started.items ps bs
  pub live_room : live.room ≡ length bs
  pub started_room : started.room ≡ length bs
  pub index : IsIndex (length bs) at

-- and there is room to list all of them once more
pub record AreListed (k : Rooted) (ps : List PlaceView) (held : Bool) (address : RegisterView) (live started called : NumbersView)
    (at : List (List ℕ)) (bs : List (Bit NodeState)) : Type 0 where
  pub kept : AreKept k ps held address live started at bs
  pub called_room : called.room ≡ length bs

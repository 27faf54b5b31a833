-- Which targets a message has reached, of the chips or of the devices of a board, by number: only they are told of a
-- byte, of another's start and of a stop.
use Rattle.std.specs.Prelude.{⊤, ◌≡◌, ℕ, ◌+◌, ◌<◌, ◌≤◌, ◌==◌, Bool, true, false, not, ◌&&◌, ◌||◌, List, [], ◌∷◌, length, Option, Some, slice_get}
use Rattle.std.specs.List.{list_any, filter, range_with_len}
use Rattle.std.specs.Option.{option_map_or}
use Rattle.i2c_base.specs.declared.event.Event.{Event}
use Rattle.i2c_base.specs.Limits.{MOST_DEVICES}
use Rattle.i2c_base.specs.Table.{Table}
use Rattle.i2c_spec.specs.Chips.{ChipView}
use Rattle.i2c_spec.specs.Grant.{has_address}
use Rattle.i2c_spec.specs.Targets.{IsQuiet}
use Rattle.i2c_physics.specs.Places.{PlaceView, joins, event_if}

abbrev pub is_among : List ℕ → ℕ → Bool
is_among numbers k = list_any (λ n. n == k) numbers

-- numbers from low on and below high, each above the one before it
abbrev pub AreRising : ℕ → ℕ → List ℕ → Type 0
AreRising low high [] = ⊤
AreRising low high (n ∷ ns) = (low ≤ n) × (n < high) × AreRising (n + 1) high ns

-- one event for all whose numbers these are
abbrev pub to_those : List ℕ → Event → ℕ → Option Event
to_those numbers e k = event_if (is_among numbers k) e

-- by number: the target is joined to the wires; it is there, on a bus of the root; it has this address
abbrev pub joins_at : List ChipView → List PlaceView → ℕ → Bool
joins_at chips places k = option_map_or (joins chips) (slice_get places k) false

abbrev pub wired_at : List PlaceView → ℕ → Bool
wired_at places k = option_map_or (λ p. p.wired) (slice_get places k) false

abbrev pub has_at : ℕ → List PlaceView → ℕ → Bool
has_at a places k = option_map_or (λ p. has_address a p.addr) (slice_get places k) false

-- who is called by a start, and which of these numbers it is an Other for
abbrev pub addressed : List ChipView → List PlaceView → ℕ → List ℕ
addressed chips places a = filter (λ k. has_at a places k && joins_at chips places k) (range_with_len 0 (length places))

abbrev pub others : List ChipView → List PlaceView → ℕ → List ℕ → List ℕ
others chips places a numbers = filter (λ k. not (has_at a places k) && joins_at chips places k) numbers

-- those of either list, of so many
abbrev pub union_of : ℕ → List ℕ → List ℕ → List ℕ
union_of count xs ys = filter (λ k. is_among xs k || is_among ys k) (range_with_len 0 count)

-- those that were started since their last stop, and of them those that have heard the last start: all others are quiet
pub record IsReach {X : Type 0} (t : Table X) (xs : List X) (started hearing : List ℕ) : Type 0 where
  pub few : length xs ≤ MOST_DEVICES
  pub started_rise : AreRising 0 (length xs) started
  pub hearing_rise : AreRising 0 (length xs) hearing
  pub hearing_started : (k : ℕ) → is_among hearing k ≡ true → is_among started k ≡ true
  pub quiet : (k : ℕ) (x : X) → slice_get xs k ≡ Some x → is_among started k ≡ false → IsQuiet t x

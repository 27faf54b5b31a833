-- The two wires of a root with a controller, step by step: pulls and looks (UM10204 sections 3.1.1, 3.1.4 and 3.1.9).
use Rattle.std.specs.Prelude.{◌+◌, ℕ, zero, suc, Bool, true, false, not, ◌&&◌, List, [], ◌∷◌, cond, map}
use Rattle.i2c_base.specs.Table.{Table}
use Rattle.wire_spec.specs.Wires.{Site, Bit, LOOKS, shifted, holds, rise, fall, tick, begin, finish}
use Rattle.wire_spec.specs.Roots.{some_one, sda, where_joined}

-- what an analyser sees: the level of SDA where SCL rises (section 3.1.3), and a start or a stop where SDA changes while SCL stays high
-- (section 3.1.4)
pub data Sign : Type 0 where
  Level : (high : Bool) → Sign
  Started : Sign
  Stopped : Sign

-- all that was seen, the last of it first
abbrev pub Seen : Type 0
Seen = List Sign

-- how often SCL rose, and how often there was a start or a stop
abbrev pub edges_in : Seen → ℕ
edges_in [] = 0
edges_in (Level high ∷ c) = edges_in c + 1
edges_in (Started ∷ c) = edges_in c
edges_in (Stopped ∷ c) = edges_in c

abbrev pub flips_in : Seen → ℕ
flips_in [] = 0
flips_in (Level high ∷ c) = flips_in c
flips_in (Started ∷ c) = flips_in c + 1
flips_in (Stopped ∷ c) = flips_in c + 1

-- SCL has risen once more for each of these levels
abbrev pub with_levels : List Bool → Seen → Seen
with_levels [] c = c
with_levels (h ∷ hs) c = with_levels hs (Level h ∷ c)

-- whether the controller pulls SCL and SDA, the targets, and what was seen so far
pub record Bus (X : Type 0) : Type 0 where
  pub scl : Bool
  pub sda : Bool
  pub targets : List (Bit X)
  pub seen : Seen

-- lines of these parts
abbrev pub bus_of : {X : Type 0} → Bool → Bool → List (Bit X) → Seen → Bus X
bus_of scl sda targets seen = record { scl = scl; sda = sda; targets = targets; seen = seen }

-- which targets are joined, by number, as their states tell
abbrev pub Mask : Type 0 → Type 0
Mask X = List (Site X) → ℕ → Bool

-- it is on the wires, and holds SCL
abbrev pub holds_line : {X : Type 0} → Bit X → Bool
holds_line b = b.site.joined && holds b

-- the levels of the lines: low exactly where someone pulls, so SCL and SDA are each a wired AND (section 3.1.1)
abbrev pub scl_level : {X : Type 0} → Bus X → Bool
scl_level w = not w.scl && not (some_one holds_line w.targets)

abbrev pub sda_level : {X : Type 0} → Table X → Bus X → Bool
sda_level t w = sda t w.targets (not w.sda)

-- each target that is joined sees an edge
abbrev pub each : {X : Type 0} → (Bit X → Bit X) → Bus X → Bus X
each f w = record w { targets = map (where_joined f) w.targets }

-- SCL rises
abbrev pub rises : {X : Type 0} → Table X → Bus X → Bus X
rises t w = record w { targets = map (where_joined (λ b. rise t b (sda_level t w))) w.targets; seen = Level (sda_level t w) ∷ w.seen }

-- what is joined after a stop is read from the states of the targets, by number, and nobody is in a message then
abbrev pub rejoin_from : {X : Type 0} → (ℕ → Bool) → ℕ → List (Bit X) → List (Bit X)
rejoin_from f k [] = []
rejoin_from f k (b ∷ bs) = record b { site = record b.site { joined = f k; heard = false } } ∷ rejoin_from f (k + 1) bs

abbrev pub rejoined : {X : Type 0} → Mask X → List (Bit X) → List (Bit X)
rejoined {X} mask bs = rejoin_from (mask (map {A = Bit X} (λ (c : Bit X). c.site) bs)) 0 bs

-- a stop on the wires
abbrev pub finishes : {X : Type 0} → Table X → Mask X → Bus X → Bus X
finishes t mask w = record w { targets = rejoined mask (map (where_joined (finish t)) w.targets); seen = Stopped ∷ w.seen }

-- a start on the wires
abbrev pub begins : {X : Type 0} → Bus X → Bus X
begins w = record w { targets = map (where_joined begin) w.targets; seen = Started ∷ w.seen }

-- what a change of the levels is to the targets: SCL falls, rises, stays low, or stays high while SDA changes
abbrev pub edge : {X : Type 0} → Table X → Mask X → Bool → Bool → Bus X → Bus X
edge t mask true was w =
    cond (scl_level w) (cond was (cond (sda_level t w) w (begins w)) (cond (sda_level t w) (finishes t mask w) w)) (each fall w)
edge t mask false was w = cond (scl_level w) (rises t w) w

-- the controller pulls the lines, or lets them go
unfoldable pub pulled : {X : Type 0} → Table X → Mask X → Bus X → Bool → Bool → Bus X
pulled t mask w scl data_low =
    edge t mask (scl_level w) (sda_level t w) (bus_of scl data_low w.targets w.seen)

-- the controller looks at SCL: where it is low, who holds it has a look less, and SCL rises where that was the last (section 3.1.9)
unfoldable pub looked : {X : Type 0} → Table X → Bus X → Bus X
looked t w = cond (scl_level w) w (cond (scl_level (each tick w)) (rises t (each tick w)) (each tick w))

-- what a controller comes to: whether SCL came up in time, what it read so far, and the lines
pub record Came (X : Type 0) : Type 0 where
  pub up : Bool
  pub read : ℕ
  pub bus : Bus X

-- SCL came up in time, and the number that was read; and it didn't
abbrev pub came_up : {X : Type 0} → ℕ → Bus X → Came X
came_up read w = record { up = true; read = read; bus = w }

abbrev pub gave_up : {X : Type 0} → Bus X → Came X
gave_up w = record { up = false; read = 0; bus = w }

-- it looks until SCL is high, so many times at most, and reads SDA then (section 3.1.3)
unfoldable pub await : {X : Type 0} → Table X → ℕ → ℕ → Bus X → Came X
await t v zero w = gave_up w
await t v (suc n) w =
    cond (scl_level w) (came_up (shifted v (sda_level t w)) (looked t w)) (await t v n (looked t w))

-- after the looks SCL is pulled again; where they were too few, both lines are let go
abbrev pub closed : {X : Type 0} → Table X → Mask X → Bool → Came X → Came X
closed t mask high c = record c { bus = cond c.up (pulled t mask c.bus true (not high)) (pulled t mask c.bus false false) }

-- one bit of a byte: SDA is set while SCL is low, then SCL is let go (section 3.1.3)
unfoldable pub bit_step : {X : Type 0} → Table X → Mask X → ℕ → Bool → Bus X → Came X
bit_step t mask v high w = closed t mask high (await t v LOOKS (pulled t mask (pulled t mask w true (not high)) false (not high)))

-- a bit only follows where SCL came up in the one before
abbrev pub then_bits : {X : Type 0} → Came X → Came X → Came X
then_bits c d = cond c.up d c

-- several bits, the number that is read going along
unfoldable pub bit_steps : {X : Type 0} → Table X → Mask X → ℕ → List Bool → Bus X → Came X
bit_steps t mask v [] w = came_up v w
bit_steps t mask v (h ∷ hs) w =
    then_bits (bit_step t mask v h w) (bit_steps t mask (bit_step t mask v h w).read hs (bit_step t mask v h w).bus)

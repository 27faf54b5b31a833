-- What bus clear comes to: over any lines by the record of the pulls and looks, and over lines that tell after a cut read.
use Rattle.std.specs.Prelude.{◌≡◌, ◌≤◌, ◌⊎◌, ℕ, zero, suc, ◌+◌, true, false}
use Rattle.ports.specs.Causes.{counted}
use Rattle.wire_spec.specs.Bus.{Bus}
use Rattle.wire_spec.specs.Sites.{NodeState}
use Rattle.i2c_bits.specs.Wiring.{Rooted, Wire, AreLetGo}
use Rattle.i2c_bits.specs.Stands.{IsFree, world_at}
use Rattle.bus_clear.specs.Cuts.{MOST_PULSES, IsQuietWorld, pulses_of, cleared_world}
use Rattle.bus_clear.specs.declared.cleared.Cleared.{Cleared}
use Rattle.bus_clear.specs.declared.cleared.Cleared.TheVariants.{Free, SdaHeld, SclHeld}

-- so many pulls of SCL more
abbrev pub more_pulses : ℕ → ℕ → ℕ
more_pulses zero p = p
more_pulses (suc n) p = counted (more_pulses n p)

-- both lines are let go, so many pulses were made, and SCL looked low 255 times in a row so often more
pub record ClearedAfter (made often : ℕ) (old new : Wire) : Type 0 where
  pub few : made ≤ MOST_PULSES
  pub pulses : new.pulses ≡ more_pulses made old.pulses
  pub stuck : new.stuck ≡ often
  pub let_go : AreLetGo new

-- SCL stayed low in the pulse after so many, or before the first one
pub record HeldAfter (made : ℕ) (old new : Wire) : Type 0 where
  pub few : made ≤ MOST_PULSES
  pub pulses : ((made ≡ 0) × (new.pulses ≡ old.pulses)) ⊎ (new.pulses ≡ more_pulses (made + 1) old.pulses)
  pub stuck : new.stuck ≡ counted old.stuck
  pub let_go : AreLetGo new

-- SCL is held exactly where it looked low 255 times in a row, in the pulse after so many or before the first; SDA exactly where it
-- looked low after the ninth; else it looked high
abbrev pub ClearLooksTell : Cleared → Wire → Wire → Type 0
ClearLooksTell (Free made) old new = ClearedAfter made old.stuck old new × (new.sda_high ≡ true)
ClearLooksTell SdaHeld old new = ClearedAfter MOST_PULSES old.stuck old new × (new.sda_high ≡ false)
ClearLooksTell (SclHeld made) old new = HeldAfter made old new

-- after a cut read SDA comes free: with the pulses that the world says, with every target as the world has it after what it was
-- told, and the lines free for the next message
pub record ClearIs (k : Rooted) (addr cut : ℕ) (a : Cleared) (old new : Bus NodeState) : Type 0 where
  pub answer : a ≡ Free (pulses_of (world_at k false old) addr cut)
  pub few : pulses_of (world_at k false old) addr cut ≤ MOST_PULSES
  pub free : IsFree k new
  pub world : world_at k false new ≡ cleared_world (world_at k false old) addr cut
  pub quiet : IsQuietWorld (world_at k false new)

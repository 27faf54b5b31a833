-- A read of one byte that is cut off at a rise of SCL, and bus clear after it (UM10204 section 3.1.16), as the world of bytes has
-- them: no wire is spoken of here.
use Rattle.std.specs.Prelude.{◌≡◌, ◌<◌, ◌≤◌, ℕ, zero, suc, ◌+◌, ◌-◌, ◌==◌, nat_lt, Bool, true, false, not, ◌&&◌, ◌||◌, List, [], ◌∷◌, ◌++◌, cond, if◌then◌else◌}
use Rattle.std.specs.List.{AllByRecursion}
use Rattle.i2c_base.specs.declared.port.PortCall.{PortCall}
use Rattle.i2c_base.specs.declared.port.PortCall.TheVariants as call
use Rattle.i2c_spec.specs.Chips.{chip_table}
use Rattle.i2c_spec.specs.Targets.{IsQuiet, state_table}
use Rattle.i2c_spec.specs.World.{World, after, after_all, answer, gives, is_ack}
use Rattle.wire_spec.specs.Wires.{bit}

-- a start, eight bits of the address byte and its acknowledge, eight bits of data, and the controller's answer to them
abbrev pub RISES : ℕ
RISES = 18

-- a controller makes so many pulses at most (section 3.1.16)
abbrev pub MOST_PULSES : ℕ
MOST_PULSES = 9

-- what the controller does is heard where this world answers Ack to the start, and the byte is the one that a target gives then
abbrev pub is_heard : World → ℕ → Bool
is_heard w addr = is_ack (answer w addr true)

abbrev pub given_byte : World → ℕ → ℕ
given_byte w addr = gives (after w (call.Start addr true))

-- the level of SDA at the rise of this number, once the controller lets both lines go: low in the acknowledge of an address that is
-- heard, and at each low bit of the byte, the most significant one first (sections 3.1.5 and 3.1.6)
abbrev pub level_by : Bool → ℕ → ℕ → Bool
level_by heard byte r =
    not heard || (if r == 9 then false else if nat_lt 9 r && nat_lt r 18 then bit byte (17 - r) else true)

abbrev pub level_at : World → ℕ → ℕ → Bool
level_at w addr r = level_by (is_heard w addr) (given_byte w addr) r

-- for so many rises from this one on SDA is low, of so many at most
abbrev pub low_rises : (ℕ → Bool) → ℕ → ℕ → ℕ
low_rises level zero r = 0
low_rises level (suc n) r = cond (level r) 0 (suc (low_rises level n (suc r)))

-- the pulses that free SDA after a cut
abbrev pub pulses_of : World → ℕ → ℕ → ℕ
pulses_of w addr cut = low_rises (level_at w addr) MOST_PULSES cut

-- what the targets have come to at a rise: a start from the eighth bit on, and after the byte the answer to it, which is none
abbrev pub events_by : Bool → ℕ → ℕ → List PortCall
events_by heard addr r =
    (if nat_lt 7 r then call.Start addr true ∷ [] else []) ++ (if heard && (r == 18) then call.Get false ∷ [] else [])

-- after bus clear: what they had come to where SDA went high, and a stop
abbrev pub events_at : World → ℕ → ℕ → List PortCall
events_at w addr cut = events_by (is_heard w addr) addr (cut + pulses_of w addr cut) ++ call.Stop ∷ []

abbrev pub cleared_world : World → ℕ → ℕ → World
cleared_world w addr cut = after_all w (events_at w addr cut)

-- starts for others and stops leave every target as it is
pub record IsQuietWorld (w : World) : Type 0 where
  pub chips : AllByRecursion (IsQuiet chip_table) w.chips
  pub devices : AllByRecursion (IsQuiet state_table) w.devices

-- from this rise on SDA is low for so many rises, and then high
pub record ArePulses (level : ℕ → Bool) (cut pulses : ℕ) : Type 0 where
  pub low : (j : ℕ) → j < pulses → level (cut + j) ≡ false
  pub high : level (cut + pulses) ≡ true
  pub few : pulses ≤ MOST_PULSES

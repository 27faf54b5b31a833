-- A read that is cut off, and bus clear (UM10204 section 3.1.16), as the pulls and looks of a controller.
use Rattle.std.specs.Prelude.{ℕ, zero, suc, ◌+◌, ◌-◌, ◌==◌, nat_lt, Bool, true, false, not, cond, if◌then◌else◌}
use Rattle.i2c_base.specs.Table.{Table}
use Rattle.wire_spec.specs.Wires.{bit}
use Rattle.wire_spec.specs.Bus.{Bus, Mask, Came, pulled, await}
use Rattle.wire_spec.specs.Calls.{STOP_LOOKS, start_pulls}
use Rattle.bus_clear.specs.Cuts.{MOST_PULSES}
use Rattle.bus_clear.specs.declared.cleared.Cleared.{Cleared}
use Rattle.bus_clear.specs.declared.cleared.Cleared.TheVariants.{Free, SdaHeld, SclHeld}

-- the level that the controller gives SDA for the rise of this number: the bits of the address byte, and then it lets SDA go
abbrev pub cut_level : ℕ → ℕ → Bool
cut_level byte r = if nat_lt r 9 then bit byte (8 - r) else true

-- SDA is set while SCL is low, and SCL let go, and looked at until it is high, 255 times at most; and one clock
unfoldable pub cut_rise : {X : Type 0} → Table X → Mask X → Bool → Bus X → Bus X
cut_rise t mask high w = (await t 0 STOP_LOOKS (pulled t mask (pulled t mask w true (not high)) false (not high))).bus

unfoldable pub cut_clock : {X : Type 0} → Table X → Mask X → Bool → Bus X → Bus X
cut_clock t mask high w = pulled t mask (cut_rise t mask high w) true (not high)

-- so many clocks, from the rise of this number on
abbrev pub cut_clocks : {X : Type 0} → Table X → Mask X → (byte r n : ℕ) → Bus X → Bus X
cut_clocks t mask byte r zero w = w
cut_clocks t mask byte r (suc n) w = cut_clocks t mask byte (suc r) n (cut_clock t mask (cut_level byte r) w)

-- after the rise of this number both lines are let go
abbrev pub cut_off : {X : Type 0} → Table X → Mask X → (byte r : ℕ) → Bus X → Bus X
cut_off t mask byte r w = pulled t mask (cut_rise t mask (cut_level byte r) w) false false

-- a read with this address byte, which is cut off at the rise of this number
unfoldable pub cut_pulls : {X : Type 0} → Table X → Mask X → (byte cut : ℕ) → Bus X → Bus X
cut_pulls t mask byte cut w = cut_off t mask byte cut (cut_clocks t mask byte 1 (cut - 1) (start_pulls t mask w))

-- a pulse: SCL is pulled with SDA let go, let go, and looked at until it is high, 255 times at most
unfoldable pub pulse : {X : Type 0} → Table X → Mask X → Bus X → Came X
pulse t mask w = await t 0 STOP_LOOKS (pulled t mask (pulled t mask w true false) false false)

-- a start and a stop
abbrev pub start_stop : {X : Type 0} → Table X → Mask X → Bus X → Bus X
start_stop t mask w = pulled t mask (pulled t mask w false true) false false

-- the answer, and the lines
pub record Clearing (X : Type 0) : Type 0 where
  pub answer : Cleared
  pub bus : Bus X

abbrev pub clearing : {X : Type 0} → Cleared → Bus X → Clearing X
clearing a w = record { answer = a; bus = w }

-- SCL is high, and SDA has this level; so many more pulses may be made, and so many were
unfoldable pub clear_from : {X : Type 0} → Table X → Mask X → Bool → (left made : ℕ) → Bus X → Clearing X
clear_from t mask true left made w = clearing (Free made) (start_stop t mask w)
clear_from t mask false zero made w = clearing SdaHeld w
clear_from t mask false (suc n) made w =
    cond (pulse t mask w).up (clear_from t mask ((pulse t mask w).read == 1) n (made + 1) (pulse t mask w).bus)
    (clearing (SclHeld made) (pulse t mask w).bus)

-- both lines are let go, and SCL looked at until it is high, before the first pulse
abbrev pub let_go : {X : Type 0} → Table X → Mask X → Bus X → Came X
let_go t mask w = await t 0 STOP_LOOKS (pulled t mask w false false)

unfoldable pub clear_pulls : {X : Type 0} → Table X → Mask X → Bus X → Clearing X
clear_pulls t mask w =
    cond (let_go t mask w).up (clear_from t mask ((let_go t mask w).read == 1) MOST_PULSES 0 (let_go t mask w).bus)
    (clearing (SclHeld 0) (let_go t mask w).bus)

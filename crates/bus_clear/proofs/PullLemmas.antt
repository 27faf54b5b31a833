-- The pulls and looks of the code are those of the definitions.
use Rattle.bus_clear.proofs.Cited.{◌≡◌, ℕ, zero, suc, ◌+◌, ◌-◌, ◌<◌, ◌≤◌, Bool, true, false, cond, refl, ap, sym, ◌∙◌, arith, ◌==◌, not}
use Rattle.bus_clear.proofs.Cited.{Result, Table, shifted, Bus, Came, pulled, await, came_up, gave_up, STOP_LOOKS, start_pulls, NodeState}
use Rattle.bus_clear.proofs.Cited.{Rooted, mask_at, counted, MOST_PULSES, more_pulses, cut_level, cut_clocks, start_stop, clearing, Cleared}
use Rattle.bus_clear.proofs.Cited.{Free, SclHeld}
use Rattle.std.proofs.Common.{sub-one}
use Rattle.std.specs.Prelude.{Ok, Err}
use Rattle.i2c_bits.specs.Wiring.{came}
use Rattle.i2c_bits.specs.declared.lines.SclTimeout.{SclTimeout}
use Rattle.bus_clear.specs.Pulls.{cut_rise, cut_clock, cut_pulls, pulse, clear_from, clear_pulls}
use Rattle.bus_clear.specs.declared.cleared.Cleared.TheVariants.{SdaHeld}
use Rattle.bus_clear.proofs.Clocks.{level_one}

came_bus : (r : Result Bool SclTimeout) (w : Bus NodeState) → (came 0 r w).bus ≡ w
came_bus (Ok level) w = refl
came_bus (Err e) w = refl

module _ (t : Table NodeState) (k k1 : Rooted) (w w1 w2 : Bus NodeState) (same : k1 ≡ k) where
  pub pulse_is : w1 ≡ pulled t (mask_at k) w true false → (r : Result Bool SclTimeout)
      → came 0 r w2 ≡ await t 0 STOP_LOOKS (pulled t (mask_at k1) w1 false false)
      → came 0 r w2 ≡ pulse t (mask_at k) w
  unfolding pulse
  pulse_is a r b =
      b ∙ (ap (λ m. await t 0 STOP_LOOKS (pulled t (mask_at m) w1 false false)) same
      ∙ ap (λ x. await t 0 STOP_LOOKS (pulled t (mask_at k) x false false)) a)

  pub rise_is : (high : Bool) → w1 ≡ pulled t (mask_at k) w true (not high) → (r : Result Bool SclTimeout)
      → came 0 r w2 ≡ await t 0 STOP_LOOKS (pulled t (mask_at k1) w1 false (not high))
      → w2 ≡ cut_rise t (mask_at k) high w
  unfolding cut_rise
  rise_is high a r b =
      sym (came_bus r w2)
      ∙ ap (λ (c : Came NodeState). c.bus) (b ∙ (ap (λ m. await t 0 STOP_LOOKS (pulled t (mask_at m) w1 false (not high))) same
      ∙ ap (λ x. await t 0 STOP_LOOKS (pulled t (mask_at k) x false (not high))) a))

  pub clock_is : (high : Bool) → w1 ≡ cut_rise t (mask_at k) high w → w2 ≡ pulled t (mask_at k1) w1 true (not high)
      → w2 ≡ cut_clock t (mask_at k) high w
  unfolding cut_clock
  clock_is high a b =
      b ∙ (ap (λ m. pulled t (mask_at m) w1 true (not high)) same ∙ ap (λ x. pulled t (mask_at k) x true (not high)) a)

-- ---- one clock of those that are left
pub clocks_pop : (t : Table NodeState) (k : Rooted) (byte r n : ℕ) (w : Bus NodeState) → 0 < n
    → cut_clocks t (mask_at k) byte r n w ≡ cut_clocks t (mask_at k) byte (r + 1) (n - 1) (cut_clock t (mask_at k) (cut_level byte r) w)
clocks_pop t k byte r zero w some = absurd (omega arith)
clocks_pop t k byte r (suc n) w some =
    ap (λ m. cut_clocks t (mask_at k) byte m n (cut_clock t (mask_at k) (cut_level byte r) w)) (omega arith)
    ∙ ap (λ m. cut_clocks t (mask_at k) byte (r + 1) m (cut_clock t (mask_at k) (cut_level byte r) w)) (sym (sub-one (suc n)))

pub clocks_end : (t : Table NodeState) (k : Rooted) (byte r n : ℕ) (w : Bus NodeState) → n ≤ 0 → w ≡ cut_clocks t (mask_at k) byte r n w
clocks_end t k byte r zero w le = refl
clocks_end t k byte r (suc n) w le = absurd (omega arith)

-- one clock of those that are left
pub clock_on : (t : Table NodeState) (k k1 : Rooted) (w w1 : Bus NodeState) (byte r cut : ℕ) → r < cut → k1 ≡ k → (high : Bool)
    → high ≡ cut_level byte r → w1 ≡ cut_clock t (mask_at k1) high w
    → cut_clocks t (mask_at k) byte (r + 1) (cut - (r + 1)) w1 ≡ cut_clocks t (mask_at k) byte r (cut - r) w
clock_on t k k1 w w1 byte r cut lt same high is e =
    let n : cut - (r + 1) ≡ cut - r - 1 = omega arith in
    ap (λ n. cut_clocks t (mask_at k) byte (r + 1) n w1) n
    ∙ (ap (cut_clocks t (mask_at k) byte (r + 1) (cut - r - 1))
    (e ∙ (ap (λ m. cut_clock t (mask_at m) high w) same ∙ ap (λ h. cut_clock t (mask_at k) h w) is))
    ∙ sym (clocks_pop t k byte r (cut - r) w (omega (arith, lt))))

-- after the clocks the last rise, and both lines are let go
module _ (t : Table NodeState) (k k1 k2 : Rooted) (w w2 w3 w4 : Bus NodeState) where
  pub cut_is : (byte cut : ℕ) → k1 ≡ k → k2 ≡ k → w2 ≡ cut_clocks t (mask_at k) byte 1 (cut - 1) (start_pulls t (mask_at k) w)
      → (high : Bool) → high ≡ cut_level byte cut
      → w3 ≡ cut_rise t (mask_at k1) high w2 → w4 ≡ pulled t (mask_at k2) w3 false false
      → w4 ≡ cut_pulls t (mask_at k) byte cut w
  unfolding cut_pulls
  cut_is byte cut e f b high is c d =
      d ∙ (ap (λ m. pulled t (mask_at m) w3 false false) f
      ∙ ap (λ x. pulled t (mask_at k) x false false)
      (c ∙ (ap (λ m. cut_rise t (mask_at m) high w2) e
      ∙ (ap (λ h. cut_rise t (mask_at k) h w2) is
      ∙ ap (cut_rise t (mask_at k) (cut_level byte cut)) b))))

module _ (t : Table NodeState) (k : Rooted) (left made : ℕ) (w : Bus NodeState) where
  next_by : (c : Came NodeState) → c ≡ pulse t (mask_at k) w → (n : ℕ) → left ≡ suc n
      → cond c.up (clear_from t (mask_at k) (c.read == 1) n (made + 1) c.bus) (clearing (SclHeld made) c.bus)
      ≡ clear_from t (mask_at k) false left made w
  unfolding clear_from
  next_by c e n is =
      ap (λ (d : Came NodeState). cond d.up (clear_from t (mask_at k) (d.read == 1) n (made + 1) d.bus) (clearing (SclHeld made) d.bus)) e
      ∙ ap (λ m. clear_from t (mask_at k) false m made w) (sym is)

  one_less : 0 < left → left ≡ suc (left - 1)
  one_less some = omega (arith, some)

  pub next_up : 0 < left → (level : Bool) (w1 : Bus NodeState) → came_up (shifted 0 level) w1 ≡ pulse t (mask_at k) w
      → clear_from t (mask_at k) level (left - 1) (made + 1) w1 ≡ clear_from t (mask_at k) false left made w
  next_up some level w1 e =
      ap (λ h. clear_from t (mask_at k) h (left - 1) (made + 1) w1) (sym (level_one level))
      ∙ next_by (came_up (shifted 0 level) w1) e (left - 1) (one_less some)

  pub next_low : 0 < left → (w1 : Bus NodeState) → gave_up w1 ≡ pulse t (mask_at k) w
      → clearing (SclHeld made) w1 ≡ clear_from t (mask_at k) false left made w
  next_low some w1 e = next_by (gave_up w1) e (left - 1) (one_less some)

  pub none_left : left ≤ 0 → clearing SdaHeld w ≡ clear_from t (mask_at k) false left made w
  unfolding clear_from
  none_left le =
      let e : left ≡ 0 = omega (arith, le) in ap (λ m. clear_from t (mask_at k) false m made w) (sym e)

  pub is_free : (w1 : Bus NodeState) → w1 ≡ start_stop t (mask_at k) w → clearing (Free made) w1 ≡ clear_from t (mask_at k) true left made w
  unfolding clear_from
  is_free w1 e = ap (clearing (Free made)) e

module _ (t : Table NodeState) (k k1 : Rooted) (w w1 w2 : Bus NodeState) (same : k1 ≡ k) where
  let_by : (c : Came NodeState) → c ≡ await t 0 STOP_LOOKS (pulled t (mask_at k) w false false)
      → cond c.up (clear_from t (mask_at k) (c.read == 1) MOST_PULSES 0 c.bus) (clearing (SclHeld 0) c.bus)
      ≡ clear_pulls t (mask_at k) w
  unfolding clear_pulls
  let_by c e =
      ap (λ (d : Came NodeState). cond d.up (clear_from t (mask_at k) (d.read == 1) MOST_PULSES 0 d.bus) (clearing (SclHeld 0) d.bus)) e

  pub let_up : (level : Bool) (a : Cleared) → came_up (shifted 0 level) w1 ≡ await t 0 STOP_LOOKS (pulled t (mask_at k) w false false)
      → clearing a w2 ≡ clear_from t (mask_at k1) level MOST_PULSES 0 w1
      → clearing a w2 ≡ clear_pulls t (mask_at k) w
  let_up level a e f =
      f ∙ (ap (λ m. clear_from t (mask_at m) level MOST_PULSES 0 w1) same
      ∙ (ap (λ h. clear_from t (mask_at k) h MOST_PULSES 0 w1) (sym (level_one level)) ∙ let_by (came_up (shifted 0 level) w1) e))

  pub let_low : gave_up w1 ≡ await t 0 STOP_LOOKS (pulled t (mask_at k) w false false)
      → clearing (SclHeld 0) w1 ≡ clear_pulls t (mask_at k) w
  let_low e = let_by (gave_up w1) e

more : {made : ℕ} → made ≤ 9 → (made ≡ 9 → ⊥) → 0 < MOST_PULSES - made
more {made} le not = omega (arith, le, not)

-- ---- the same by the mask of another moment
module _ (t : Table NodeState) (k k1 : Rooted) (made : ℕ) (w w1 : Bus NodeState) (same : k1 ≡ k) where
  pub pulse_up : (level : Bool) → made ≤ 9 → (made ≡ 9 → ⊥) → came_up (shifted 0 level) w1 ≡ pulse t (mask_at k1) w
      → clear_from t (mask_at k) level (MOST_PULSES - (made + 1)) (made + 1) w1 ≡ clear_from t (mask_at k) false (MOST_PULSES - made) made w
  pulse_up level le not e =
      ap (λ n. clear_from t (mask_at k) level n (made + 1) w1) (omega (arith, le))
      ∙ next_up t k (MOST_PULSES - made) made w (more le not) level w1 (e ∙ ap (λ m. pulse t (mask_at m) w) same)

  pub pulse_low : made ≤ 9 → (made ≡ 9 → ⊥) → gave_up w1 ≡ pulse t (mask_at k1) w
      → clearing (SclHeld made) w1 ≡ clear_from t (mask_at k) false (MOST_PULSES - made) made w
  pulse_low le not e =
      next_low t k (MOST_PULSES - made) made w (more le not) w1 (e ∙ ap (λ m. pulse t (mask_at m) w) same)

  pub freed : (left : ℕ) → w1 ≡ start_stop t (mask_at k1) w → clearing (Free made) w1 ≡ clear_from t (mask_at k) true left made w
  freed left e = is_free t k left made w w1 (e ∙ ap (λ m. start_stop t (mask_at m) w) same)

next : (n : ℕ) → suc n ≡ n + 1
next n = omega arith

pub more_one : (n p : ℕ) → counted (more_pulses n p) ≡ more_pulses (n + 1) p
more_one n p = ap (λ m. more_pulses m p) (next n)

-- One look of those that are left, and what the looks have come to.
use Rattle.std.proofs.Common.{◌≡◌, ℕ, zero, suc, ◌+◌, ◌-◌, ◌<◌, ◌≤◌, Bool, true, false, cond, refl, ap, sym, ◌∙◌, arith, sub-one, subst}
use Rattle.std.specs.Prelude.{◌==◌}
use Rattle.std.proofs.lemmas.Bool.Decides.{nat_tests}
use Rattle.i2c_base.specs.Table.{Table}
use Rattle.ports.specs.Causes.{counted}
use Rattle.wire_spec.specs.Wires.{LOOKS, shifted}
use Rattle.wire_spec.specs.Bus.{Bus, Came, came_up, gave_up, scl_level, sda_level, looked, await}
use Rattle.wire_spec.specs.Calls.{STOP_LOOKS}
use Rattle.i2c_bits.specs.Wiring.{Wire, wire_looked}

-- SCL is high
pub found : {X : Type 0} (t : Table X) (v n : ℕ) (w new : Bus X) (clock level : Bool) → 0 < n → clock ≡ true → clock ≡ scl_level w
    → level ≡ sda_level t w → new ≡ looked t w → came_up (shifted v level) new ≡ await t v n w
unfolding await
found t v zero w new clock level some up is l n = absurd (omega arith)
found {X} t v (suc k) w new clock level some up is l n =
    ap (λ b. came_up (shifted v b) new) l
    ∙ (ap (came_up (shifted v (sda_level t w))) n
    ∙ ap (λ u. cond {A = Came X} u (came_up (shifted v (sda_level t w)) (looked t w)) (await t v k (looked t w))) (sym up ∙ is))

-- it is low
pub missed : {X : Type 0} (t : Table X) (v n : ℕ) (w new : Bus X) (clock : Bool) → 0 < n → clock ≡ false → clock ≡ scl_level w
    → new ≡ looked t w → await t v (n - 1) new ≡ await t v n w
unfolding await
missed t v zero w new clock some low is n = absurd (omega arith)
missed {X} t v (suc k) w new clock some low is n =
    ap (λ m. await t v m new) (sub-one (suc k)) ∙ (ap (await t v k) n
    ∙ ap (λ u. cond {A = Came X} u (came_up (shifted v (sda_level t w)) (looked t w)) (await t v k (looked t w))) (sym low ∙ is))

-- no look is left
pub ended : {X : Type 0} (t : Table X) (v n : ℕ) (w : Bus X) → n ≤ 0 → gave_up w ≡ await t v n w
unfolding await
ended t v zero w le = refl
ended t v (suc k) w le = absurd (omega arith)

-- what stays, and rises by one where the run of low looks comes to this number
pub record Passed (most made old new : ℕ) : Type 0 where
  pub before : made < most → new ≡ old
  pub behind : made ≡ most → new ≡ counted old

-- what so many low looks since the last pull have come to
pub record Counted (made : ℕ) (old new : Wire) : Type 0 where
  pub low : new.low ≡ made
  pub slow : Passed LOOKS made old.slow new.slow
  pub stuck : Passed STOP_LOOKS made old.stuck new.stuck

next_before : (most low mid old : ℕ) → low + 1 < most → mid ≡ old → cond (low + 1 == most) (counted mid) mid ≡ old
next_before most low mid old few is = grind (arith, nat_tests)

next_behind : (most low mid old : ℕ) → low + 1 ≡ most → mid ≡ old → cond (low + 1 == most) (counted mid) mid ≡ counted old
next_behind most low mid old last is = rw (last, is) (grind (arith, nat_tests))

passed_next : (most made low old mid : ℕ) → low ≡ made → Passed most made old mid
    → Passed most (made + 1) old (cond (low + 1 == most) (counted mid) mid)
passed_next most made low old mid is p = record {
  before = λ few. next_before most low mid old (omega arith) (p.before (omega arith));
  behind = λ last. next_behind most low mid old (omega arith) (p.before (omega arith));
}

pub counted_next : (old w new : Wire) (made : ℕ) (high level : Bool) → new ≡ wire_looked w high level → high ≡ false → made < STOP_LOOKS
    → Counted made old w → Counted (made + 1) old new
counted_next old w new made high level is low few c =
    let e : new ≡ wire_looked w false level = is ∙ ap (λ h. wire_looked w h level) low in
    let run : w.low ≡ made = c.low in
    record {
      low = omega (arith, ap (λ x. x.low) e);
      slow = subst (Passed LOOKS (made + 1) old.slow) (sym (ap (λ x. x.slow) e))
          (passed_next LOOKS made w.low old.slow w.slow c.low c.slow);
      stuck = subst (Passed STOP_LOOKS (made + 1) old.stuck) (sym (ap (λ x. x.stuck) e))
          (passed_next STOP_LOOKS made w.low old.stuck w.stuck c.low c.stuck);
    }

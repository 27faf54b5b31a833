-- One bit on the lines, and the bits of a byte that are left.
use Rattle.std.proofs.Common.{◌≡◌, ℕ, zero, suc, ◌+◌, ◌-◌, ◌*◌, ◌/◌, ◌^◌, ◌<◌, ◌≤◌, Bool, true, false, cond, ◌∷◌, refl, ap, sym, ◌∙◌, arith}
use Rattle.std.proofs.Common.{sub-one}
use Rattle.std.specs.Prelude.{◌==◌, not, bit_and}
use Rattle.std.proofs.lemmas.Nat.Bits.{shr_and_one}
use Rattle.std.proofs.Math.Nat.{pow-suc}
use mir.Val.{bool_byte}
use Rattle.i2c_base.specs.Table.{Table}
use Rattle.wire_spec.specs.Wires.{LOOKS, bit, bits, shifted}
use Rattle.wire_spec.specs.Bus.{Bus, Came, came_up, gave_up, pulled, closed, await, bit_step, bit_steps, then_bits}
use Rattle.wire_spec.specs.Sites.{NodeState}
use Rattle.i2c_bits.specs.Wiring.{Rooted, mask_at}

-- ---- one bit
module _ (t : Table NodeState) (v : ℕ) (k k1 k2 : Rooted) (high : Bool) (w w1 w2 w3 : Bus NodeState) (e : k1 ≡ k) (e2 : k2 ≡ k1)
    (a : w1 ≡ pulled t (mask_at k) w true (not high)) where
  stepped : (c : Came NodeState) → c ≡ await t v LOOKS (pulled t (mask_at k1) w1 false (not high))
      → closed t (mask_at k) high c ≡ bit_step t (mask_at k) v high w
  unfolding bit_step
  stepped c b =
      ap (closed t (mask_at k) high) (b ∙ ap (λ m. await t v LOOKS (pulled t (mask_at m) w1 false (not high))) e)
      ∙ ap (λ x. closed t (mask_at k) high (await t v LOOKS (pulled t (mask_at k) x false (not high)))) a

  pub bit_up : (level : Bool) → came_up (shifted v level) w2 ≡ await t v LOOKS (pulled t (mask_at k1) w1 false (not high))
      → w3 ≡ pulled t (mask_at k2) w2 true (not high) → came_up (shifted v level) w3 ≡ bit_step t (mask_at k) v high w
  bit_up level b c =
      ap (came_up (shifted v level)) (c ∙ ap (λ m. pulled t (mask_at m) w2 true (not high)) (e2 ∙ e))
      ∙ stepped (came_up (shifted v level) w2) b

  pub bit_low : gave_up w2 ≡ await t v LOOKS (pulled t (mask_at k1) w1 false (not high)) → w3 ≡ pulled t (mask_at k2) w2 false false
      → gave_up w3 ≡ bit_step t (mask_at k) v high w
  bit_low b c = ap gave_up (c ∙ ap (λ m. pulled t (mask_at m) w2 false false) (e2 ∙ e)) ∙ stepped (gave_up w2) b

-- ---- the bits that are left
bits_pop : (k n : ℕ) → 0 < k → bits k n ≡ bit n (k - 1) ∷ bits (k - 1) n
bits_pop zero n some = absurd (omega arith)
bits_pop (suc k) n some = ap (λ m. bit n m ∷ bits m n) (sym (sub-one (suc k)))

-- the test of the code
abbrev pub tested : ℕ → ℕ → Bool
tested n k = bit_and (n / 2 ^ k) 1 == 1

bit_test : (n k : ℕ) → tested n k ≡ bit n k
bit_test n k = ap (λ m. m == 1) (shr_and_one n k)

module _ (t : Table NodeState) (k k1 : Rooted) (v n left : ℕ) (w : Bus NodeState) (same : k1 ≡ k) (some : 0 < left) where
  steps_eq : (got : Came NodeState) → got ≡ bit_step t (mask_at k1) v (tested n (left - 1)) w
      → then_bits got (bit_steps t (mask_at k) got.read (bits (left - 1) n) got.bus) ≡ bit_steps t (mask_at k) v (bits left n) w
  unfolding bit_steps
  steps_eq got e =
      ap (λ c. then_bits c (bit_steps t (mask_at k) c.read (bits (left - 1) n) c.bus))
      (e ∙ (ap (λ m. bit_step t (mask_at m) v (tested n (left - 1)) w) same ∙ ap (λ h. bit_step t (mask_at k) v h w)
      (bit_test n (left - 1))))
      ∙ ap (λ hs. bit_steps t (mask_at k) v hs w) (sym (bits_pop left n some))

  pub steps_pop : (level : Bool) (new : Bus NodeState) → came_up (shifted v level) new ≡ bit_step t (mask_at k1) v (tested n (left - 1)) w
      → bit_steps t (mask_at k) (shifted v level) (bits (left - 1) n) new ≡ bit_steps t (mask_at k) v (bits left n) w
  steps_pop level new e = steps_eq (came_up (shifted v level) new) e

  pub steps_low : (new : Bus NodeState) → gave_up new ≡ bit_step t (mask_at k1) v (tested n (left - 1)) w
      → gave_up new ≡ bit_steps t (mask_at k) v (bits left n) w
  steps_low new e = steps_eq (gave_up new) e

pub steps_end : (t : Table NodeState) (k : Rooted) (v n left : ℕ) (w : Bus NodeState) → left ≤ 0
    → came_up v w ≡ bit_steps t (mask_at k) v (bits left n) w
unfolding bit_steps
steps_end t k v n zero w le = refl
steps_end t k v n (suc left) w le = absurd (omega arith)

-- ---- what was read fits the bits that came
pub fits_next : (r left x : ℕ) → 0 < left → left ≤ 8 → x < 2 → r < 2 ^ (8 - left) → 2 * r + x < 2 ^ (8 - (left - 1))
fits_next r left x some few small fits =
    let e : 8 - (left - 1) ≡ suc (8 - left) = omega arith in
    rw e (omega (arith, pow-suc 2 (8 - left)))

pub byte_bool : (b : Bool) → bool_byte b ≡ cond b 1 0
byte_bool true = refl
byte_bool false = refl

pub bool_small : (b : Bool) → cond b 1 0 < 2
bool_small true = omega arith
bool_small false = omega arith

-- The lines of drivers: what they mean is in range, and how long they are.
use Rattle.tools.proofs.Cited.{◌≡◌, ℕ, ◌≤◌, Bool, true, false, [], ◌∷◌, Option, Some, None, refl, arith, subst, cond, option_and_then, ◌==◌}
use Rattle.tools.proofs.Cited.{bytes_eq, option_map, nat_tests, page_written, IsInRange, Grammar, Word, number_in, Cmd}
use Rattle.std.specs.Prelude.{ℤ, pos, neg_ℤ, codes}
use Rattle.tools.specs.At24Lines.{read_span, written_span, at24_read_words, at24_write_words, at24_words}
use Rattle.tools.specs.DriverLines.{driver_lines}
use Rattle.tools.specs.Lm75Lines.{IsMilli, IsWritten, half_degree, half_degrees, milli_in, read_reg, written_reg, lm75_read_words}
use Rattle.tools.specs.Lm75Lines.{lm75_write_words, lm75_words}
use Rattle.tools.specs.declared.command.driver.lm75.RegName.{RegName}
use Rattle.tools.specs.declared.command.driver.lm75.RegName.TheVariants.{Hyst, Max}
use Rattle.tools.proofs.ByteListLemmas.{bytes_fit, bytes_within}
use Rattle.tools.proofs.GrammarLemmas.{AllEnds, EndsWithin, ends_within_most}
use Rattle.tools.proofs.OptionLemmas.{IsBetween, number_between}

-- ---- their range

module _ (limit bus addr : ℕ) (on : IsBetween 0 65535 bus) (to : IsBetween 8 119 addr) where
  span_fits : AllEnds (IsInRange limit) (read_span bus addr)
  unfolding read_span
  span_fits w from is x n is_count =
      let count = number_between 1 32768 x n is_count in
      record {
        bus = omega (arith, on.to_high);
        addr = (to.from_low, to.to_high);
        offset = omega (arith, (number_between 0 65535 w from is).to_high);
        some = count.from_low;
        few = count.to_high;
      }

  written_fits : AllEnds (IsInRange limit) (written_span bus addr)
  unfolding written_span
  written_fits w from is =
      bytes_fit (IsInRange limit) 64 (page_written bus addr from)
      (λ bytes are. record {
        bus = omega (arith, on.to_high);
        addr = (to.from_low, to.to_high);
        offset = omega (arith, (number_between 0 65535 w from is).to_high);
        bytes = are.each;
        some = are.some;
        few = are.few;
      }) (omega arith)

-- MILLI is in a register's range
half_is : (x n : ℕ) → half_degree x ≡ Some n → x ≡ n
half_is x n is = grind (arith, nat_tests)

half_fits : (low high n : ℕ) (w : Word) (o : Option ℕ) → number_in low high w ≡ o → option_and_then half_degree o ≡ Some n
    → IsBetween low high n
half_fits low high n w None e is = absurd cc
half_fits low high n w (Some x) e is = subst (IsBetween low high) (half_is x n is) (number_between low high w x e)

low_fits : (n : ℕ) → n ≤ 128000 → IsMilli (neg_ℤ (pos n))
low_fits n few = record { low = grind (arith, few); high = grind (arith, few) }

high_fits : (n : ℕ) → n ≤ 127500 → IsMilli (pos n)
high_fits n few = record { low = grind (arith, few); high = grind (arith, few) }

mapped : (f : ℕ → ℤ) (o : Option ℕ) (z : ℤ) → ((n : ℕ) → o ≡ Some n → IsMilli (f n)) → option_map f o ≡ Some z → IsMilli z
mapped f None z h is = absurd cc
mapped f (Some n) z h is = let same : f n ≡ z = cc in subst IsMilli same (h n refl)

pick_milli : (b : Bool) (x y : Option ℤ) (z : ℤ) → (x ≡ Some z → IsMilli z) → (y ≡ Some z → IsMilli z) → cond b x y ≡ Some z → IsMilli z
pick_milli true x y z h k is = h is
pick_milli false x y z h k is = k is

milli_fits : (w : Word) (z : ℤ) → milli_in w ≡ Some z → IsMilli z
milli_fits [] z is = absurd cc
milli_fits (c ∷ cs) z is =
    pick_milli (c == 45) (option_map (λ n. neg_ℤ (pos n)) (half_degrees 1 128000 cs))
    (option_map (λ n. pos n) (half_degrees 0 127500 (c ∷ cs))) z
    (mapped (λ n. neg_ℤ (pos n)) (half_degrees 1 128000 cs) z
    (λ n e. low_fits n (half_fits 1 128000 n cs (number_in 1 128000 cs) refl e).to_high))
    (mapped (λ n. pos n) (half_degrees 0 127500 (c ∷ cs)) z
    (λ n e. high_fits n (half_fits 0 127500 n (c ∷ cs) (number_in 0 127500 (c ∷ cs)) refl e).to_high))
    is

-- REGNAME is one that is written
pick_written : (b d : Bool) (which : RegName) → cond b (Some Hyst) (cond d (Some Max) None) ≡ Some which → IsWritten which
pick_written true d which is = let same : Hyst ≡ which = cc in subst IsWritten same tt
pick_written false true which is = let same : Max ≡ which = cc in subst IsWritten same tt
pick_written false false which is = absurd cc

module _ (limit bus addr : ℕ) (on : IsBetween 0 65535 bus) (to : IsBetween 8 119 addr) where
  reg_fits : AllEnds (IsInRange limit) (read_reg bus addr)
  unfolding read_reg
  reg_fits w which is = record { bus = omega (arith, on.to_high); addr = (to.from_low, to.to_high) }

  reg_written_fits : AllEnds (IsInRange limit) (written_reg bus addr)
  unfolding written_reg
  reg_written_fits w which is x z is_milli = record {
    bus = omega (arith, on.to_high);
    addr = (to.from_low, to.to_high);
    which = pick_written (bytes_eq w (codes "hyst")) (bytes_eq w (codes "max")) which is;
    milli = milli_fits x z is_milli;
  }

-- BUS ADDR, and what follows them
pub drivers_fit : (limit : ℕ) (others : Grammar Cmd) → AllEnds (IsInRange limit) others → AllEnds (IsInRange limit) (driver_lines others)
unfolding driver_lines at24_words at24_read_words at24_write_words lm75_words lm75_read_words lm75_write_words
drivers_fit limit others rest = (
  (
    λ w bus is x addr to. span_fits limit bus addr (number_between 0 65535 w bus is) (number_between 8 119 x addr to),
    λ w bus is x addr to. written_fits limit bus addr (number_between 0 65535 w bus is) (number_between 8 119 x addr to),
  ),
  (
    (
      λ w bus is x addr to. reg_fits limit bus addr (number_between 0 65535 w bus is) (number_between 8 119 x addr to),
      λ w bus is x addr to. reg_written_fits limit bus addr (number_between 0 65535 w bus is) (number_between 8 119 x addr to),
    ),
    (tt, rest),
  ),
)

-- ---- how long they are: after the first word they have at most 68 words

module _ (bus addr : ℕ) where
  span_within : EndsWithin 2 (read_span bus addr)
  unfolding read_span
  span_within = λ w from is x n is_count. tt

  written_within : EndsWithin 65 (written_span bus addr)
  unfolding written_span
  written_within = λ w from is. bytes_within 64 [] (page_written bus addr from)

  reg_within : EndsWithin 1 (read_reg bus addr)
  unfolding read_reg
  reg_within = λ w which is. tt

  reg_written_within : EndsWithin 2 (written_reg bus addr)
  unfolding written_reg
  reg_written_within = λ w which is x z is_milli. tt

at24_within : EndsWithin 68 at24_words
unfolding at24_words at24_read_words at24_write_words
at24_within = (
  λ w bus is x addr to. ends_within_most 2 65 (read_span bus addr) (omega arith) (span_within bus addr),
  λ w bus is x addr to. written_within bus addr,
)

lm75_within : EndsWithin 5 lm75_words
unfolding lm75_words lm75_read_words lm75_write_words
lm75_within = (
  λ w bus is x addr to. ends_within_most 1 2 (read_reg bus addr) (omega arith) (reg_within bus addr),
  λ w bus is x addr to. reg_written_within bus addr,
)

pub drivers_within : (others : Grammar Cmd) → EndsWithin 4142 others → EndsWithin 4142 (driver_lines others)
unfolding driver_lines
drivers_within others rest = (
  ends_within_most 68 4141 at24_words (omega arith) at24_within,
  (
    ends_within_most 5 4141 lm75_words (omega arith) lm75_within,
    (tt, rest),
  ),
)

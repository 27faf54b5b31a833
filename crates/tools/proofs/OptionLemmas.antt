-- What lines have in common: a number in a word is in its range, and the options are read before what follows them.
use Rattle.tools.proofs.Cited.{◌≡◌, ℕ, suc, ◌+◌, ◌≤◌, nat_le, Bool, true, false, List, Option, Some, None, Result, Ok, Err, cond, codes}
use Rattle.tools.proofs.Cited.{refl, subst, arith, IfSome, nat_tests, Grammar, read_at, Word, number_in, within, ◌>>=◌, is_at}
use Rattle.tools.specs.Numbers.{number_in_word}
use Rattle.tools.specs.Options.{force_and_yes, options_at}
use Rattle.tools.proofs.GrammarLemmas.{AllEnds, EndsWithin, ends_within_more}

pub bounded : (a b : ℕ) → nat_le a b ≡ true → a ≤ b
bounded a b h = grind (arith, nat_tests)

-- a mode that a test names, and the modes after it
pub if_named : {M : Type 0} (Q : M → Type 0) (b : Bool) (m : M) (o : Option M) → (b ≡ true → Q m) → IfSome o Q
    → IfSome (cond b (Some m) o) Q
if_named Q true m o q r = q refl
if_named Q false m o q r = r

pub mode_is : {M : Type 0} (Q : M → Type 0) (o : Option M) (m : M) → o ≡ Some m → IfSome o Q → Q m
mode_is Q None m is h = absurd cc
mode_is Q (Some x) m is h = let same : x ≡ m = cc in subst Q same h

-- a number in a word is within its range
pub record IsBetween (low high n : ℕ) : Type 0 where
  pub from_low : low ≤ n
  pub to_high : n ≤ high

between : (low high n : ℕ) (o : Option ℕ) → within low high o ≡ Some n → IsBetween low high n
between low high n None e = absurd cc
between low high n (Some v) e = record { from_low = grind (arith, nat_tests); to_high = grind (arith, nat_tests) }

pub number_between : (low high : ℕ) (w : Word) (n : ℕ) → number_in low high w ≡ Some n → IsBetween low high n
number_between low high w n e = between low high n (number_in_word w) e

options_shape : {A B : Type 0} (a b c d : Bool) (x y z : A) (p q : ℕ) (f : A → Result B ℕ)
    → cond a (cond b (f x) (Err p)) (cond c (cond d (f y) (f z)) (Err q)) ≡
    (cond a (cond b (Ok x) (Err p)) (cond c (cond d (Ok y) (Ok z)) (Err q)) >>= f)
options_shape true true c d x y z p q f = refl
options_shape true false c d x y z p q f = refl
options_shape false b true true x y z p q f = refl
options_shape false b true false x y z p q f = refl
options_shape false b false d x y z p q f = refl

-- the options are read, and then what follows them
pub options_read : {A : Type 0} (k : Bool → Grammar A) (ws : List Word) (i : ℕ)
    → read_at (force_and_yes k) ws i ≡ (options_at ws i >>= λ o. read_at (k o.0) ws o.1)
unfolding options_at force_and_yes
options_read k ws i =
    options_shape (is_at (codes "-f") ws i) (is_at (codes "-y") ws (i + 1)) (is_at (codes "-y") ws i) (is_at (codes "-f") ws (i + 1))
    (true, i + 1 + 1) (true, i + 1 + 1) (false, i + 1) (i + 1) i (λ o. read_at (k o.0) ws o.1)

pub options_end : {A : Type 0} (P : A → Type 0) (k : Bool → Grammar A) → ((f : Bool) → AllEnds P (k f)) → AllEnds P (force_and_yes k)
unfolding force_and_yes
options_end P k h = (h true, (h true, h false))

pub options_within : {A : Type 0} (n : ℕ) (k : Bool → Grammar A) → ((f : Bool) → EndsWithin n (k f))
    → EndsWithin (suc (suc n)) (force_and_yes k)
unfolding force_and_yes
options_within n k h = (h true, (h true, ends_within_more n (k false) (h false)))

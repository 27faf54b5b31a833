-- Calls by their number: a log is read newest call first, and the number of a call is how many are older. The inductions
-- go over lists.
use Rattle.journal_laws.proofs.Cited.{◌≡◌, ℕ, zero, suc, ◌+◌, ◌<◌, ◌≤◌, List, [], ◌∷◌, ◌++◌, length, length-append, reverse, Option, Some}
use Rattle.journal_laws.proofs.Cited.{refl, sym, ◌∙◌, ap, arith, inl, inr, slice_get, AllByRecursion, leb_tells, reverse-append}
use Rattle.journal_laws.proofs.Cited.{length-reverse, PortCall}
use Rattle.i2c_base.specs.declared.port.PortCall.TheVariants as call
use Rattle.journal_laws.proofs.past.CutTalks.{Went}
use Rattle.i2c_base.proofs.ListLemmas.{get_front}

abbrev pub number_of : List PortCall → ℕ → Option PortCall
number_of calls n = slice_get (reverse calls) n

get_behind : {X : Type 0} (xs ys : List X) (x : X) (n : ℕ) → n ≡ length xs → slice_get (xs ++ x ∷ ys) n ≡ Some x
get_behind [] ys x zero e = refl
get_behind [] ys x (suc n) e = absurd (omega (arith, e))
get_behind (y ∷ xs) ys x zero e = absurd (omega (arith, e))
get_behind (y ∷ xs) ys x (suc n) e = get_behind xs ys x n (omega (arith, e))

-- newer calls leave the numbers of older ones
pub number-older : (newer calls : List PortCall) (n : ℕ) → n < length calls → number_of (newer ++ calls) n ≡ number_of calls n
number-older newer calls n low =
    ap (λ (xs : List PortCall). slice_get xs n) (reverse-append newer calls)
    ∙ get_front (reverse calls) (reverse newer) n (omega (arith, low, length-reverse calls))

-- a call has the number of those before it
pub number-of : (c : PortCall) (calls : List PortCall) (n : ℕ) → n ≡ length calls → number_of (c ∷ calls) n ≡ Some c
number-of c calls n e =
    ap (λ (xs : List PortCall). slice_get xs n) (reverse-append (c ∷ []) calls)
    ∙ get_behind (reverse calls) [] c n (omega (arith, e, length-reverse calls))

-- no call among these failed
pub none-failed : (own calls : List PortCall) (n : ℕ) → AllByRecursion Went own → length calls ≤ n → n < length own + length calls
    → number_of (own ++ calls) n ≡ Some call.Fault → ⊥
none-failed [] calls n went high low failed = omega (arith, high, low)
none-failed (c ∷ own) calls n went high low failed =
    elim (leb_tells (length (own ++ calls)) n) [
      | inl h ↦ (let many : length (own ++ calls) ≡ length own + length calls = length-append own calls in
          let e : n ≡ length (own ++ calls) = omega (arith, h.1, low, many) in
          went.0 (let f : Some c ≡ Some call.Fault = sym (number-of c (own ++ calls) n e) ∙ failed in cc))
      | inr h ↦ (let less : n < length (own ++ calls) = h.1 in
          let many : length (own ++ calls) ≡ length own + length calls = length-append own calls in
          none-failed own calls n went.1 high (omega (arith, less, many))
          (sym (number-older (c ∷ []) (own ++ calls) n (omega (arith, less))) ∙ failed))
    ]

-- .. nor among the older ones of them
pub went-older : (newer own : List PortCall) → AllByRecursion Went (newer ++ own) → AllByRecursion Went own
went-older [] own went = went
went-older (c ∷ newer) own went = went-older newer own went.1

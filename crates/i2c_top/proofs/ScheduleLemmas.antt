-- The words of a schedule, one after the other. The inductions go over its bytes.
use Rattle.i2c_top.proofs.Cited.{◌≡◌, ℕ, ◌+◌, ◌-◌, ◌<◌, ◌≤◌, Bool, true, false, List, [], ◌∷◌, ◌++◌, length, Some, None, Result, Ok, Err}
use Rattle.i2c_top.proofs.Cited.{refl, sym, ap, subst, ◌∙◌, arith, cond, ◌&&◌, append_assoc, length-append, All-push, and_parts}
use Rattle.i2c_top.proofs.Cited.{MOST_CALLERS, behind_callers, callers_from}
use Rattle.std.specs.Prelude.{All, ◌↔◌, nat_le, nat_lt}
use Rattle.std.specs.Fmt.{decimal}
use Rattle.std.proofs.lemmas.Bool.{and_from, leb-true, ltb-true, le-leb, lt-ltb}
use Rattle.std.proofs.lemmas.Fmt.{decimal_digit}
use Rattle.std.proofs.lemmas.Option.{same_Some, none-some}
use Rattle.i2c_top.specs.Schedules.{caller_named, caller_at, behind_entry}

-- what stands in front of what is read
behind_two : (cs : List ℕ) (c : ℕ) (r : Result (List ℕ) ℕ) → behind_callers cs (behind_callers (c ∷ []) r) ≡ behind_callers (cs ++ c ∷ []) r
behind_two cs c (Ok ds) = ap (λ xs. Ok xs) (sym (append_assoc cs (c ∷ []) ds))
behind_two cs c (Err index) = refl

-- a word that names a caller stands behind these callers
more_callers : (callers : ℕ) (cs : List ℕ) (c : ℕ) (word : List ℕ) (words : List (List ℕ)) → caller_at callers (length cs) word ≡ Some c
    → behind_callers (cs ++ c ∷ []) (callers_from callers (length (cs ++ c ∷ [])) words) ≡ behind_callers cs
    (callers_from callers (length cs) (word ∷ words))
more_callers callers cs c word words at =
    ap (λ n. behind_callers (cs ++ c ∷ []) (callers_from callers n words)) (length-append cs (c ∷ []))
    ∙ sym (behind_two cs c (callers_from callers (length cs + 1) words))
    ∙ ap (λ o. behind_callers cs (behind_entry (length cs) o (callers_from callers (length cs + 1) words))) (sym at)

pub callers_more : (callers : ℕ) (cs cs_now : List ℕ) (c n : ℕ) (word : List ℕ) (entries words words_now : List (List ℕ))
    (r : Result (List ℕ) ℕ)
    → entries ≡ word ∷ words → words_now ≡ words → cs_now ≡ cs ++ c ∷ [] → n ≡ length cs → caller_at callers n word ≡ Some c
    → behind_callers cs (callers_from callers (length cs) entries) ≡ r
    → behind_callers cs_now (callers_from callers (length cs_now) words_now) ≡ r
callers_more callers cs cs_now c n word entries words words_now r e rest pushed size at same =
    ap (λ xs. behind_callers xs (callers_from callers (length xs) words_now)) pushed
    ∙ ap (λ ws. behind_callers (cs ++ c ∷ []) (callers_from callers (length (cs ++ c ∷ [])) ws)) rest
    ∙ more_callers callers cs c word words (ap (λ k. caller_at callers k word) (sym size) ∙ at)
    ∙ ap (λ x. behind_callers cs (callers_from callers (length cs) x)) (sym e) ∙ same

-- one caller more, which is below the number of callers too
pub below_more : (callers : ℕ) (cs cs_now : List ℕ) (c : ℕ) → cs_now ≡ cs ++ c ∷ [] → All (λ x. x < callers) cs → c < callers
    → All (λ x. x < callers) cs_now
below_more callers cs cs_now c pushed all below = subst (All (λ x. x < callers)) (sym pushed) (All-push (λ x. x < callers) cs c all below)

-- a digit that is tested
named_digit : (t : Bool) (callers digit caller : ℕ) → (nat_le 48 digit && nat_lt (digit - 48) callers) ≡ t
    → cond t (Some (digit - 48)) None ≡ Some caller
    → (caller < callers) × (digit ≡ 48 + caller)
named_digit true callers digit caller test e =
    let parts = and_parts (nat_le 48 digit) (nat_lt (digit - 48) callers) test in
    let low : 48 ≤ digit = leb-true 48 digit parts.0 in
    let high : digit - 48 < callers = ltb-true (digit - 48) callers parts.1 in
    let same : digit - 48 ≡ caller = same_Some (digit - 48) caller e in
    (omega (arith, high, same), omega (arith, low, same))
named_digit false callers digit caller test e = absurd (none-some caller e)

digit_names : (callers caller : ℕ) → caller < callers → caller_named callers ((48 + caller) ∷ []) ≡ Some caller
digit_names callers caller below =
    let back : 48 + caller - 48 ≡ caller = omega arith in
    ap (λ t. cond t (Some (48 + caller - 48)) None)
    (and_from (nat_le 48 (48 + caller)) (nat_lt (48 + caller - 48) callers) (le-leb 48 (48 + caller) (omega arith))
    (lt-ltb (48 + caller - 48) callers (omega (arith, back, below))))
    ∙ ap (λ n. Some n) back

-- A WORD NAMES A CALLER exactly where it is its number
pub words-are-numbers : (callers caller : ℕ) (word : List ℕ) → callers ≤ MOST_CALLERS
    → (caller_named callers word ≡ Some caller) ↔ ((caller < callers) × (word ≡ decimal caller))
words-are-numbers callers caller word few = (to word, from)
  where
    to : (w : List ℕ) → caller_named callers w ≡ Some caller → (caller < callers) × (w ≡ decimal caller)
    to [] e = absurd (none-some caller e)
    to (digit ∷ []) e =
        let h = named_digit (nat_le 48 digit && nat_lt (digit - 48) callers) callers digit caller refl e in
        (h.0, ap (λ d. d ∷ []) h.1 ∙ sym (decimal_digit caller (omega (arith, h.0, few))))
    to (digit ∷ next ∷ more) e = absurd (none-some caller e)

    from : (caller < callers) × (word ≡ decimal caller) → caller_named callers word ≡ Some caller
    from h = ap (caller_named callers) (h.1 ∙ decimal_digit caller (omega (arith, h.0, few))) ∙ digit_names callers caller h.0

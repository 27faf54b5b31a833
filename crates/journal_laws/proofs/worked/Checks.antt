-- Tests that are computed on a small board, its scripts and its schedule, each with the fact that it shows. The inductions
-- go over numbers, transfers and steps.
use Rattle.journal_laws.proofs.Cited.{◌≡◌, ℕ, zero, suc, ◌<◌, ◌≢◌, nat_lt, Bool, true, false, not, ◌&&◌, cond, eqb, List, [], ◌∷◌, length}
use Rattle.journal_laws.proofs.Cited.{Some, None, ◌∙◌, ap, subst, inl, inr, arith, slice_get, list_all, AllByRecursion, and_parts, ltb-true}
use Rattle.journal_laws.proofs.Cited.{eqb_tells, Entry, Reply, TransferView, transfers_of, Turn, turns, is_ready, past_after, FollowsRest}
use Rattle.journal_laws.proofs.Cited.{FollowsWords, Follows}
use Rattle.std.proofs.Common.{All}
use Rattle.std.specs.Bool.{MatchBool}
use Rattle.std.proofs.lemmas.List.Elements.{All-cons, All-nil}
use Rattle.std.proofs.lemmas.Bool.{eqb-true, not-true}
use Rattle.i2c_spec.specs.Rules.{NoPair, NoneOf}

-- none of these numbers passes a test
abbrev pub none_of : (ℕ → Bool) → ℕ → Bool
none_of test zero = true
none_of test (suc n) = not (test n) && none_of test n

pub none-of : (test : ℕ → Bool) (n : ℕ) → none_of test n ≡ true → NoneOf test n
none-of test zero e i within = absurd (omega (arith, within))
none-of test (suc n) e i within =
    let h = and_parts (not (test n)) (none_of test n) e in
    elim (eqb_tells i n) [
      | inl same ↦ ap test same.1 ∙ not-true (test n) h.0
      | inr other ↦ (let ne : i ≢ n = other.1 in none-of test n h.1 i (omega (arith, within, ne)))
    ]

-- no two of them
abbrev pub no_pair : (ℕ → ℕ → Bool) → ℕ → Bool
no_pair test zero = true
no_pair test (suc n) = none_of (λ i. test i n) n && no_pair test n

pub no-pair : (test : ℕ → ℕ → Bool) (n : ℕ) → no_pair test n ≡ true → NoPair test n
no-pair test zero e i j before within = absurd (omega (arith, within))
no-pair test (suc n) e i j before within =
    let h = and_parts (none_of (λ k. test k n) n) (no_pair test n) e in
    elim (eqb_tells j n) [
      | inl same ↦ ap (λ (k : ℕ). test i k) same.1 ∙ none-of (λ k. test k n) n h.0 i (subst (λ (k : ℕ). i < k) same.1 before)
      | inr other ↦ (let ne : j ≢ n = other.1 in no-pair test n h.1 i j before (omega (arith, within, ne)))
    ]

-- each word is one of the callers
pub all-below : (n : ℕ) (words : List ℕ) → list_all (λ c. nat_lt c n) words ≡ true → AllByRecursion (λ c. c < n) words
all-below n [] e = tt
all-below n (c ∷ words) e =
    let h = and_parts (nat_lt c n) (list_all (λ k. nat_lt k n) words) e in
    (ltb-true c n h.0, all-below n words h.1)

-- what holds of each transfer of the scripts holds of what a caller asks for
at_place : {X : Type 0} (P : X → Type 0) (xs : List X) (i : ℕ) (x : X) → AllByRecursion P xs → slice_get xs i ≡ Some x → P x
at_place P [] i x all e = absurd (let f : None ≡ Some x = e in cc)
at_place P (y ∷ ys) zero x all e = subst P (let f : Some y ≡ Some x = e in let g : y ≡ x = cc in g) all.0
at_place P (y ∷ ys) (suc i) x all e = at_place P ys i x all.1 e

pub asks-each : (P : TransferView → Type 0) (scripts : List (List TransferView)) → AllByRecursion (AllByRecursion P) scripts
    → (c : ℕ) (rs : List Reply) (t : TransferView) → transfers_of scripts c rs ≡ Some t → P t
asks-each P [] all c rs t e = absurd (let f : None ≡ Some t = e in cc)
asks-each P (ts ∷ scripts) all zero rs t e = at_place P ts (length rs) t all.0 e
asks-each P (ts ∷ scripts) all (suc c) rs t e = asks-each P scripts all.1 c rs t e

-- one by one
pub all-each : {X : Type 0} (P : X → Type 0) (xs : List X) → AllByRecursion P xs → All P xs
all-each P [] all = All-nil P
all-each P (x ∷ xs) all = All-cons P x xs all.0 (all-each P xs all.1)

pub only-one : (P : ℕ → Type 0) → P 0 → (c : ℕ) → c < 1 → P c
only-one P p zero known = p
only-one P p (suc c) known = absurd (omega (arith, known))

pub only-two : (P : ℕ → Type 0) → P 0 → P 1 → (c : ℕ) → c < 2 → P c
only-two P p q zero known = p
only-two P p q (suc zero) known = q
only-two P p q (suc (suc c)) known = absurd (omega (arith, known))

-- THE SCHEDULE
abbrev pub follows_rest : List Entry → List Turn → Bool
follows_rest past [] = true
follows_rest past (t ∷ ts) = is_ready past (t ∷ ts) t.caller &&
    (none_of (is_ready past (t ∷ ts)) t.caller && follows_rest (past_after past t) ts)

abbrev pub follows_words : List ℕ → List Entry → List Turn → Bool
follows_words [] past later = follows_rest past later
follows_words (w ∷ ws) past [] = follows_words ws past []
follows_words (w ∷ ws) past (t ∷ ts) =
    cond (is_ready past (t ∷ ts) w) (eqb t.caller w && follows_words ws (past_after past t) ts) (follows_words ws past (t ∷ ts))

follows-rest : (past : List Entry) (later : List Turn) → follows_rest past later ≡ true → FollowsRest past later
follows-rest past [] e = tt
follows-rest past (t ∷ ts) e =
    let h = and_parts (is_ready past (t ∷ ts) t.caller)
    (none_of (is_ready past (t ∷ ts)) t.caller && follows_rest (past_after past t) ts) e in
    let k = and_parts (none_of (is_ready past (t ∷ ts)) t.caller) (follows_rest (past_after past t) ts) h.1 in
    (h.0, none-of (is_ready past (t ∷ ts)) t.caller k.0, follows-rest (past_after past t) ts k.1)

follows-words : (words : List ℕ) (past : List Entry) (later : List Turn) → follows_words words past later ≡ true
    → FollowsWords words past later
follows-words [] past later e = follows-rest past later e
follows-words (w ∷ ws) past [] e = follows-words ws past [] e
follows-words (w ∷ ws) past (t ∷ ts) e = by (is_ready past (t ∷ ts) w) (follows-words ws (past_after past t) ts)
    (follows-words ws past (t ∷ ts)) e
  where
    by : (z : Bool) → (follows_words ws (past_after past t) ts ≡ true → FollowsWords ws (past_after past t) ts)
        → (follows_words ws past (t ∷ ts) ≡ true → FollowsWords ws past (t ∷ ts))
        → cond z (eqb t.caller w && follows_words ws (past_after past t) ts) (follows_words ws past (t ∷ ts)) ≡ true
        → MatchBool z ((t.caller ≡ w) × FollowsWords ws (past_after past t) ts) (FollowsWords ws past (t ∷ ts))
    by true steps waits e = (let h = and_parts (eqb t.caller w) (follows_words ws (past_after past t) ts) e in
        (eqb-true t.caller w h.0, steps h.1))
    by false steps waits e = waits e

pub follows : (words : List ℕ) (journal : List Entry) → follows_words words [] (turns journal) ≡ true → Follows words journal
follows words journal e = follows-words words [] (turns journal) e

-- The marks of the calls that fail on a port, and the log that they give.
use Rattle.i2c_physics.proofs.Cited.{◌≡◌, ◌≢◌, ◌-◌, ℕ, zero, suc, ◌+◌, ◌<◌, ◌≤◌, ◌==◌, ◌||◌, Bool, true, false, List, [], ◌∷◌, ◌++◌, length, map, take, set, get_or}
use Rattle.i2c_physics.proofs.Cited.{Option, Some, None, refl, sym, ◌∙◌, ap, subst, arith, inl, inr, slice_get, slice_get-map, option_map, All, if◌then◌else◌, eqb_tells, ne_eqb}
use Rattle.std.proofs.lemmas.Bool.{cases_lt}
use Rattle.std.proofs.lemmas.List.{get_or-set_same, get_or-set_other, get_or_past}
use Rattle.std.proofs.lemmas.List.Folds.{list_any_more}
use Rattle.std.proofs.Math.Bool.{or-false, or-true}
use Rattle.i2c_base.proofs.ListLemmas.{all_at, get_front, get_back}
use Rattle.i2c_base.specs.declared.port.Phase.{Phase}
use Rattle.i2c_base.specs.declared.port.Phase.TheVariants.{Idle}
use Rattle.i2c_base.specs.declared.port.PortCall.{PortCall}
use Rattle.i2c_base.specs.declared.port.PortCall.TheVariants as call
use Rattle.i2c_outside.specs.Sinks.{is_listed}
use Rattle.i2c_physics.specs.SimPorts.{called}
use Rattle.i2c_base.specs.Limits.{MOST_CALLS}
use Rattle.i2c_physics.specs.FailPorts.{FailView, FailsJustAt, HaveFailedJustAt, after_next, fails_next, is_failed_call}

-- one number more is listed
pub listed_next : (fails : List ℕ) (i : ℕ) (d n : ℕ) → i < length fails
    → is_listed (take (i + 1) fails) n ≡ (is_listed (take i fails) n || (get_or fails i d == n))
listed_next fails i d n low = list_any_more (λ f. f == n) fails i d low

-- .. and marked
pub marked-next : (fails : List ℕ) (marks : List Bool) (i d n : ℕ) → i < length fails → get_or fails i d < length marks
    → get_or marks n false ≡ is_listed (take i fails) n
    → get_or (set marks (get_or fails i d) true) n false ≡ is_listed (take (i + 1) fails) n
marked-next fails marks i d n low room before = by (get_or fails i d == n) refl
  where
    x : ℕ
    x = get_or fails i d

    by : (b : Bool) → (x == n) ≡ b → get_or (set marks x true) n false ≡ is_listed (take (i + 1) fails) n
    by true e = elim (eqb_tells x n) [
      | inl is ↦
          ap (λ (k : ℕ). get_or (set marks x true) k false) (sym is.1) ∙ get_or-set_same marks x true false room
          ∙ sym (or-true (is_listed (take i fails) n)) ∙ ap (λ (b : Bool). is_listed (take i fails) n || b) (sym e)
          ∙ sym (listed_next fails i d n low)
      | inr other ↦ absurd (let f : false ≡ true = sym other.0 ∙ e in cc)
    ]
    by false e = elim (eqb_tells x n) [
      | inl is ↦ absurd (let f : false ≡ true = sym e ∙ is.0 in cc)
      | inr other ↦
          get_or-set_other marks x n true false (λ e. other.1 (sym e)) ∙ before ∙ sym (or-false (is_listed (take i fails) n))
          ∙ ap (λ (b : Bool). is_listed (take i fails) n || b) (sym e) ∙ sym (listed_next fails i d n low)
    ]

-- a number that isn't the next of them is listed where it was
pub listed-other : (fails : List ℕ) (i d n : ℕ) → i < length fails → get_or fails i d ≢ n
    → is_listed (take (i + 1) fails) n ≡ is_listed (take i fails) n
listed-other fails i d n low other =
    listed_next fails i d n low ∙ ap (λ (b : Bool). is_listed (take i fails) n || b) (ne_eqb (get_or fails i d) n other)
    ∙ or-false (is_listed (take i fails) n)

-- a log has a fault just where it is listed, and one call more is one just where that is listed
pub fails-more : (fails : List ℕ) (log : List PortCall) (c : PortCall) → FailsJustAt fails log
    → is_failed_call c ≡ is_listed fails (length log) → FailsJustAt fails (log ++ c ∷ [])
fails-more fails log c before is n d at = elim (cases_lt n (length log)) [
  | inl low ↦ before n d (sym (get_front log (c ∷ []) n low) ∙ at)
  | inr high ↦ by (n - length log) (omega (arith, high))
]
  where
    by : (k : ℕ) → n ≡ length log + k → is_failed_call d ≡ is_listed fails n
    by zero e =
        let last : n ≡ length log = omega (arith, e) in
        let same : Some c ≡ Some d = sym (get_back log (c ∷ []) 0) ∙ ap (slice_get (log ++ c ∷ [])) (sym e) ∙ at in
        let its : c ≡ d = cc in
        ap is_failed_call (sym its) ∙ is ∙ ap (is_listed fails) (sym last)
    by (suc k) e = absurd (let f : None ≡ Some d = sym (get_back log (c ∷ []) (suc k)) ∙ ap (slice_get (log ++ c ∷ [])) (sym e) ∙ at in cc)

-- .. as the next call on a port is
pub next-just : (p : FailView) (c : PortCall) (phase : Phase) → is_failed_call c ≡ false → FailsJustAt p.fails p.port.log
    → FailsJustAt p.fails (after_next p c phase).port.log
next-just p c phase calm before = by (fails_next p) refl
  where
    by : (b : Bool) → fails_next p ≡ b
        → FailsJustAt p.fails (if b then called p.port call.Fault Idle else called p.port c phase).log
    by true e = fails-more p.fails p.port.log call.Fault before (sym e)
    by false e = fails-more p.fails p.port.log c before (calm ∙ sym e)

-- one number more that a log has room for is below a count
pub marks-more : (fails : List ℕ) (i d count new : ℕ) → i < length fails
    → ((n : ℕ) → n < MOST_CALLS → is_listed (take i fails) n ≡ true → n < count) → count ≤ new
    → (get_or fails i d < MOST_CALLS → get_or fails i d < new)
    → (n : ℕ) → n < MOST_CALLS → is_listed (take (i + 1) fails) n ≡ true → n < new
marks-more fails i d count new low before grows one n few listed = by (is_listed (take i fails) n) refl
  where
    by : (b : Bool) → is_listed (take i fails) n ≡ b → n < new
    by true e = let under = before n few e in omega (arith, under, grows)
    by false e =
        let its : (false || (get_or fails i d == n)) ≡ true =
        ap (λ (b : Bool). b || (get_or fails i d == n)) (sym e) ∙ sym (listed_next fails i d n low) ∙ listed in
        elim (eqb_tells (get_or fails i d) n) [
          | inl is ↦ (let same = is.1 in let under = one (omega (arith, same, few)) in omega (arith, same, under))
          | inr other ↦ absurd (let f : false ≡ true = sym other.0 ∙ its in cc)
        ]

-- marks below a count that is above each number are all that there are
pub marks-all : (fails : List ℕ) (marks : List Bool) (count : ℕ) → length marks ≡ count
    → ((n : ℕ) → n < MOST_CALLS → is_listed fails n ≡ true → n < count)
    → ((n : ℕ) → n < count → get_or marks n false ≡ is_listed fails n) → (n : ℕ) → n < MOST_CALLS → get_or marks n false ≡ is_listed fails n
marks-all fails marks count long above below n few = elim (cases_lt n count) [
  | inl low ↦ below n low
  | inr high ↦ get_or_past marks n false (omega (arith, long, high)) ∙ by (is_listed fails n) refl high
]
  where
    by : (b : Bool) → is_listed fails n ≡ b → count ≤ n → false ≡ is_listed fails n
    by true e high = let under = above n few e in absurd (omega (arith, under, high))
    by false e high = sym e

-- on the ports that were given back, each of which keeps it, calls have failed just where they are listed
pub given-just : (ps : List FailView) → All (λ p. FailsJustAt p.fails p.port.log) ps
    → HaveFailedJustAt (map (λ p. p.fails) ps) (map (λ p. p.port.log) ps)
given-just ps all k numbers log at to = by (slice_get ps k) refl
  where
    by : (o : Option FailView) → slice_get ps k ≡ o → FailsJustAt numbers log
    by None e = absurd (let f : None ≡ Some numbers = sym (slice_get-map (λ p. p.fails) ps k ∙ ap (option_map (λ p. p.fails)) e) ∙ at in cc)
    by (Some p) e =
        let its : Some p.fails ≡ Some numbers = sym (slice_get-map (λ p. p.fails) ps k ∙ ap (option_map (λ p. p.fails)) e) ∙ at in
        let same : Some p.port.log ≡ Some log = sym (slice_get-map (λ p. p.port.log) ps k ∙ ap (option_map (λ p. p.port.log)) e) ∙ to in
        let one = all_at (λ (q : FailView). FailsJustAt q.fails q.port.log) ps k p all e in
        let a : p.fails ≡ numbers = cc in
        let b : p.port.log ≡ log = cc in
        subst (λ (l : List PortCall). FailsJustAt numbers l) b (subst (λ (ns : List ℕ). FailsJustAt ns p.port.log) a one)

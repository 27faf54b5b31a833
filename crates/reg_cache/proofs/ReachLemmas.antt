-- What is told of the reaches of scripts is what the rule reads off their texts. The inductions go over texts and numbers.
use Rattle.reg_cache.proofs.Cited.{◌≡◌, ℕ, zero, suc, ◌+◌, ◌≤◌, Bool, true, false, cond, not, ◌&&◌, ◌||◌, ◌==◌, List, [], ◌∷◌, ◌++◌, length}
use Rattle.reg_cache.proofs.Cited.{drop, Some, None, refl, sym, ◌∙◌, ap, subst, arith, slice_get, list_any, filter, range_with_len, eq-eqb}
use Rattle.reg_cache.proofs.Cited.{eqb-true, BoardView, DeviceView, Cmd, is_forced_in, is_write_to, script_on, Texts, AreReaches}
use Rattle.reg_cache.proofs.Cited.{another_writes}
use Rattle.std.specs.List.{AllZip}
use Rattle.std.proofs.lemmas.List.Elements.{filter-append}
use Rattle.caller_core.specs.Reach.{HasReach, IsReachOf, is_forced_by}
use Rattle.caller_core.specs.declared.reach.Reach.{Reach}

-- what stands behind so many of a list, at one of the other
pub record IsRest {X Y : Type 0} (R : X → Y → Type 0) (xs : List X) (i : ℕ) (y : Y) : Type 0 where
  pub x : X
  pub rest : drop i xs ≡ x ∷ drop (suc i) xs
  pub holds : R x y

rest_there : {X Y : Type 0} (R : X → Y → Type 0) (xs : List X) (ys : List Y) (i : ℕ) (y : Y) → AllZip R xs ys → slice_get ys i ≡ Some y
    → IsRest R xs i y
rest_there R xs [] i y all at = absurd (let f : None ≡ Some y = at in cc)
rest_there R [] (z ∷ zs) i y all at = absurd all
rest_there R (x ∷ xs) (z ∷ zs) zero y all at =
    let f : Some z ≡ Some y = at in
    let same : z ≡ y = cc in
    record { x = x; rest = refl; holds = subst (λ k. R x k) same all.0 }
rest_there R (x ∷ xs) (z ∷ zs) (suc i) y all at =
    let r = rest_there R xs zs i y all.1 at in
    record { x = r.x; rest = r.rest; holds = r.holds }

none_left : {X Y : Type 0} (R : X → Y → Type 0) (xs : List X) (ys : List Y) (i : ℕ) → AllZip R xs ys → length ys ≤ i → drop i xs ≡ []
none_left R [] ys zero all le = refl
none_left R [] ys (suc i) all le = refl
none_left R (x ∷ xs) [] i all le = absurd all
none_left R (x ∷ xs) (y ∷ ys) zero all le = absurd (omega (arith, le))
none_left R (x ∷ xs) (y ∷ ys) (suc i) all le = none_left R xs ys i all.1 (omega (arith, le))

module _ (b : BoardView) (texts : Texts) (reaches : List Reach) (are : AreReaches b texts reaches) where
  abbrev IsReach : List ℕ → Reach → Type 0
  IsReach text reach = IsReachOf (script_on b text) reach

  module _ (i : ℕ) (reach : Reach) (at : slice_get reaches i ≡ Some reach) where
    -- of one script more
    pub one-forced : (addr : ℕ) (told : Bool)
        → ((k : BoardView) (cs : List Cmd) → HasReach k cs reach → told ≡ list_any (λ c. is_forced_by c addr) cs)
        → list_any (is_forced_in b addr) (drop i texts) ≡ (told || list_any (is_forced_in b addr) (drop (i + 1) texts))
    one-forced addr told is =
        let r = rest_there IsReach texts reaches i reach are at in
        let next : suc i ≡ i + 1 = omega arith in
        ap (list_any (is_forced_in b addr)) r.rest
        ∙ ap (λ (z : Bool). z || list_any (is_forced_in b addr) (drop (suc i) texts)) (sym (is b _ r.holds))
        ∙ ap (λ (n : ℕ). told || list_any (is_forced_in b addr) (drop n texts)) next

    pub one-writes : (d : ℕ) (v : DeviceView) (c : ℕ) (told : Bool) → slice_get b.devices d ≡ Some v
        → ((k : BoardView) (cs : List Cmd) (w : DeviceView) → HasReach k cs reach → slice_get k.devices d ≡ Some w
        → told ≡ list_any (is_write_to w.bus w.addr) cs)
        → another_writes b v.bus v.addr c i (drop i texts)
        ≡ ((not (i == c) && told) || another_writes b v.bus v.addr c (i + 1) (drop (i + 1) texts))
    one-writes d v c told there is =
        let r = rest_there IsReach texts reaches i reach are at in
        let next : suc i ≡ i + 1 = omega arith in
        ap (another_writes b v.bus v.addr c i) r.rest
        ∙ ap (λ (z : Bool). (not (i == c) && z) || another_writes b v.bus v.addr c (i + 1) (drop (suc i) texts))
        (sym (is b _ v r.holds there))
        ∙ ap (λ (n : ℕ). (not (i == c) && told) || another_writes b v.bus v.addr c (i + 1) (drop n texts)) next

  -- of none
  pub none-forced : (i addr : ℕ) → length reaches ≤ i → false ≡ list_any (is_forced_in b addr) (drop i texts)
  none-forced i addr le = sym (ap (list_any (is_forced_in b addr)) (none_left IsReach texts reaches i are le))

  pub none-writes : (i bus addr c : ℕ) → length reaches ≤ i → false ≡ another_writes b bus addr c i (drop i texts)
  none-writes i bus addr c le = sym (ap (another_writes b bus addr c i) (none_left IsReach texts reaches i are le))

-- whether a further script's line counts
pub counts-not : (own told : Bool) → told ≡ false → (not own && told) ≡ false
counts-not true told e = refl
counts-not false told e = e

pub counts-own : (i c n : ℕ) (told : Bool) → n ≡ c → i ≡ n → (not (i == c) && told) ≡ false
counts-own i c n told is same = ap (λ (z : Bool). not z && told) (eq-eqb i c (same ∙ is))

pub counts : (i c n : ℕ) (told : Bool) → n ≡ c → (i ≡ n → ⊥) → told ≡ true → (not (i == c) && told) ≡ true
counts i c n told is apart told_is = by (i == c) refl
  where
    by : (z : Bool) → (i == c) ≡ z → (not z && told) ≡ true
    by true e = absurd (apart (eqb-true i c e ∙ sym is))
    by false e = told_is

-- one device more
range_more : (a n j : ℕ) → a + n ≡ j → range_with_len a (suc n) ≡ range_with_len a n ++ j ∷ []
range_more a zero j e = let same : a ≡ j = omega (arith, e) in ap (λ (k : ℕ). k ∷ []) same
range_more a (suc n) j e = ap (λ (l : List ℕ). a ∷ l) (range_more (a + 1) n j (omega (arith, e)))

pub one-kept : (q : ℕ → Bool) (n : ℕ) (z : Bool) → z ≡ q n
    → filter q (range_with_len 0 (n + 1)) ≡ filter q (range_with_len 0 n) ++ cond z (n ∷ []) []
one-kept q n z is =
    let next : n + 1 ≡ suc n = omega arith in
    ap (λ (k : ℕ). filter q (range_with_len 0 k)) next ∙ ap (filter q) (range_more 0 n n (omega arith))
    ∙ filter-append q (range_with_len 0 n) (n ∷ [])
    ∙ ap (λ (y : Bool). filter q (range_with_len 0 n) ++ cond y (n ∷ []) []) (sym is)

-- The acknowledge clock of an address that is Slow: someone holds SCL for more than 64 looks, and all let SDA go at the last.
use Rattle.wire_spec.proofs.Cited.{◌≡◌, ℕ, zero, suc, ◌+◌, ◌≤◌, Bool, true, false, cond, List, [], ◌∷◌, map, refl, ap, ◌∙◌, arith, inl, inr}
use Rattle.wire_spec.proofs.Cited.{◌||◌, not, nat_tests, Table, Out, site_of, Site, shifted, rise, tick, hears, is_named, is_reading}
use Rattle.wire_spec.proofs.Cited.{stands, some_one, sda, where_joined, pulls_line, Seen, Level, Bus, Came, holds_line, scl_level, sda_level, each}
use Rattle.wire_spec.proofs.Cited.{rises, bus_of, came_up, gave_up, stays_if, stays, late_if, late, late_bus, rose}
use Rattle.std.proofs.Common.{◌⊎◌}
use Rattle.wire_spec.specs.Bus.{looked, await}
use Rattle.wire_spec.proofs.Roots.{map_step, some_map, free_sda}
use Rattle.wire_spec.proofs.AckClock.{by_busy, wait_bus, wait_level, seen_by, ack_level, goes_on, waiting_if, waiting}
use Rattle.std.proofs.lemmas.Bool.{or_cases}

late_one : {X : Type 0} (t : Table X) (byte j : ℕ) → j ≡ 64 → (a : ℕ) (jd e h : Bool) (x : X)
    → where_joined tick (waiting_if t byte 1 j (site_of a jd e x) jd h) ≡ late_if t byte (site_of a jd e x) jd h
late_one t byte j is a true e true x =
    let s = site_of a true e x in ap (λ n. stands (hears t s (is_reading byte)) Out n) (omega arith)
late_one t byte j is a true e false x = refl
late_one t byte j is a false e h x = refl

late_rise : {X : Type 0} (t : Table X) (byte : ℕ) (l : Bool) (a : ℕ) (jd e h : Bool) (x : X)
    → where_joined (λ b. rise t b l) (late_if t byte (site_of a jd e x) jd h) ≡ late_if t byte (site_of a jd e x) jd h
late_rise t byte l a true e true x = refl
late_rise t byte l a true e false x = refl
late_rise t byte l a false e h x = refl

pub late_holds : {X : Type 0} (t : Table X) (byte : ℕ) (a : ℕ) (jd e h : Bool) (x : X)
    → holds_line (late_if t byte (site_of a jd e x) jd h) ≡ stays_if t byte 65 (site_of a jd e x) jd h
late_holds t byte a true e true x = refl
late_holds t byte a true e false x = refl
late_holds t byte a false e h x = refl

pub late_free : {X : Type 0} (t : Table X) (byte a : ℕ) (jd e h : Bool) (x : X) → pulls_line t (late_if t byte (site_of a jd e x) jd h) ≡ false
late_free t byte a true e true x = refl
late_free t byte a true e false x = refl
late_free t byte a false e h x = refl

late_rises : {X : Type 0} (t : Table X) (byte : ℕ) (ss : List (Site X)) (c : Seen)
    → rises t (late_bus t byte ss c) ≡ late_bus t byte ss (Level true ∷ c)
late_rises t byte ss c =
    let l : Bool = sda t (map (late t byte) ss) true in
    ap (λ bs. bus_of false false bs (Level l ∷ c))
    (map_step (late t byte) (late t byte) _ (λ s. late_rise t byte l s.addr s.joined s.heard (is_named byte s) s.state) ss)
    ∙ ap (λ k. late_bus t byte ss (Level k ∷ c))
    (free_sda t (late t byte) (λ s. late_free t byte s.addr s.joined s.heard (is_named byte s) s.state) ss true)

-- SCL is low there exactly where someone holds it for longer than 65 looks
pub late_level : {X : Type 0} (t : Table X) (byte : ℕ) (ss : List (Site X)) (c : Seen)
    → scl_level (late_bus t byte ss c) ≡ not (some_one (stays t byte 65) ss)
late_level t byte ss c =
    ap not (some_map (late t byte) holds_line (stays t byte 65) (λ s. late_holds t byte s.addr s.joined s.heard
    (is_named byte s) s.state) ss)

late_up : {X : Type 0} (t : Table X) (byte : ℕ) (ss : List (Site X)) (c : Seen)
    → cond (scl_level (late_bus t byte ss c)) (rises t (late_bus t byte ss c)) (late_bus t byte ss c)
    ≡ late_bus t byte ss (rose (some_one (stays t byte 65) ss) true c)
late_up t byte ss c = by_busy (late_bus t byte ss) c true (some_one (stays t byte 65) ss) _ _ _ (late_level t byte ss c)
    (late_rises t byte ss c) refl

look_late : {X : Type 0} (t : Table X) (byte j : ℕ) (ss : List (Site X)) (c : Seen) → j ≡ 64 → some_one (stays t byte j) ss ≡ true
    → looked t (wait_bus t byte 1 j ss c) ≡ late_bus t byte ss (rose (some_one (stays t byte 65) ss) true c)
unfolding looked
look_late {X} t byte j ss c is busy =
    let w : Bus X = wait_bus t byte 1 j ss c in
    let e : each tick w ≡ late_bus t byte ss c =
    ap (λ bs. bus_of false false bs c)
    (map_step (waiting t byte 1 j) (late t byte) _ (λ s. late_one t byte j is s.addr s.joined s.heard (is_named byte s) s.state) ss) in
    ap (λ u. cond u w (cond (scl_level (each tick w)) (rises t (each tick w)) (each tick w))) (wait_level t byte 1 j ss c ∙ ap not busy)
    ∙ (ap (λ v. cond (scl_level v) (rises t v) v) e ∙ late_up t byte ss c)

-- who holds at the last look held at each look before
longer : {X : Type 0} (t : Table X) (byte i j : ℕ) → i ≤ j → (s : Site X) (jd h : Bool) → stays_if t byte j s jd h ≡ true
    → stays_if t byte i s jd h ≡ true
longer t byte i j le s true true is = grind (arith, nat_tests)
longer t byte i j le s true false is = is
longer t byte i j le s false h is = is

or_to : (a b : Bool) → (a ≡ true) ⊎ (b ≡ true) → (a || b) ≡ true
or_to a b (inl h) = ap (λ x. x || b) h
or_to true b (inr h) = refl
or_to false b (inr h) = h

still : {X : Type 0} (t : Table X) (byte i j : ℕ) → i ≤ j → (ss : List (Site X)) → some_one (stays t byte j) ss ≡ true
    → some_one (stays t byte i) ss ≡ true
still t byte i j le [] busy = busy
still t byte i j le (s ∷ ss) busy =
    or_to _ _ (elim (or_cases (stays t byte j s) (some_one (stays t byte j) ss) busy) [
      | inl h ↦ inl (longer t byte i j le s s.joined (is_named byte s) h)
      | inr h ↦ inr (still t byte i j le ss h)
    ])

last_look : {X : Type 0} (t : Table X) (byte v j : ℕ) (ss : List (Site X)) (c : Seen) → j ≡ 64 → some_one (stays t byte j) ss ≡ true
    → await t v 1 (wait_bus t byte 1 j ss (seen_by t byte j ss c))
    ≡ gave_up (late_bus t byte ss (rose (some_one (stays t byte 65) ss) true c))
unfolding await
last_look {X} t byte v j ss c is busy =
    let w : Bus X = wait_bus t byte 1 j ss c in
    ap (λ b. await t v 1 (wait_bus t byte 1 j ss (rose b (ack_level t byte ss) c))) busy
    ∙ (ap (λ u. cond {A = Came X} u (came_up (shifted v (sda_level t w)) (looked t w)) (await t v 0 (looked t w)))
    (wait_level t byte 1 j ss c ∙ ap not busy)
    ∙ ap (λ u. gave_up u) (look_late t byte j ss c is busy))

-- all the looks are low; SCL has risen only where the 65th was the last that someone held it for
pub slow_clock : {X : Type 0} (t : Table X) (byte v n j : ℕ) (ss : List (Site X)) (c : Seen) → suc n + j ≡ 65
    → some_one (stays t byte 64) ss ≡ true
    → await t v (suc n) (wait_bus t byte (suc n) j ss (seen_by t byte j ss c))
    ≡ gave_up (late_bus t byte ss (rose (some_one (stays t byte 65) ss) true c))
slow_clock {X} t byte v zero j ss c sum busy =
    let e : j ≡ 64 = omega arith in last_look t byte v j ss c e (ap (λ m. some_one (stays t byte m) ss) e ∙ busy)
slow_clock t byte v (suc n) j ss c sum busy =
    goes_on t byte v (suc n) n j ss c (still t byte j 64 (omega arith) ss busy) ∙ slow_clock t byte v n (suc j) ss c (omega arith) busy

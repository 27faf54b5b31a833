-- The acknowledge clock of an address, which targets stretch: an induction over the looks that are left.
use Rattle.wire_spec.proofs.Cited.{◌≡◌, ℕ, zero, suc, ◌+◌, ◌-◌, ◌/◌, Bool, true, false, cond, List, [], ◌∷◌, map, refl, ap, sym, ◌∙◌, arith}
use Rattle.wire_spec.proofs.Cited.{◌==◌, ◌||◌, not, nat_tests, Start, Table, is_slow, In, Answered, Give, Out, site_of, Site, shifted, rise}
use Rattle.wire_spec.proofs.Cited.{fall, tick, hears, other, stretch, next_of, is_named, is_reading, acks_start, stands, Bit, some_one}
use Rattle.wire_spec.proofs.Cited.{pulls_line, sda, where_joined, at, start_site, Mask, Seen, Level, Bus, Came, holds_line, scl_level}
use Rattle.wire_spec.proofs.Cited.{sda_level, each, rises, closed, bus_of, came_up, stays_if, stays, rose}
use Rattle.wire_spec.specs.Wires.{entered}
use Rattle.wire_spec.specs.Bus.{looked, await}
use Rattle.wire_spec.proofs.Roots.{map_step, some_map}
use Rattle.wire_spec.proofs.Calm.{goes_down, looks_up}

-- in the acknowledge clock of this address byte a target waits for so many low looks more, and so many were made
abbrev pub waiting_by : {X : Type 0} → Table X → ℕ → ℕ → ℕ → Site X → Bool → Bit X
waiting_by t byte left made s true =
    stands (hears t s (is_reading byte))
    (Answered true (acks_start t s (is_reading byte)) (next_of (acks_start t s (is_reading byte)) (is_reading byte)) left)
    (stretch t s (is_reading byte) - made)
waiting_by t byte left made s false = stands (other t s) Out 0

abbrev pub waiting_if : {X : Type 0} → Table X → ℕ → ℕ → ℕ → Site X → Bool → Bool → Bit X
waiting_if t byte left made s true named = waiting_by t byte left made s named
waiting_if t byte left made s false named = stands s Out 0

abbrev pub waiting : {X : Type 0} → Table X → ℕ → ℕ → ℕ → Site X → Bit X
waiting t byte left made s = waiting_if t byte left made s s.joined (is_named byte s)

-- it pulls SDA in this clock
abbrev pub acknowledges_if : {X : Type 0} → Table X → ℕ → Site X → Bool → Bool → Bool
acknowledges_if t byte s true true = acks_start t s (is_reading byte)
acknowledges_if t byte s true false = false
acknowledges_if t byte s false named = false

abbrev pub acknowledges : {X : Type 0} → Table X → ℕ → Site X → Bool
acknowledges t byte s = acknowledges_if t byte s s.joined (is_named byte s)

-- how it stands behind the clock, where SCL came up in time
abbrev pub settled_if : {X : Type 0} → Table X → ℕ → Site X → Bool → Bool → Bit X
settled_if t byte s true true =
    stands (hears t s (is_reading byte)) (entered (next_of (acks_start t s (is_reading byte)) (is_reading byte))) 0
settled_if t byte s true false = stands (other t s) Out 0
settled_if t byte s false named = stands s Out 0

abbrev pub settled : {X : Type 0} → Table X → ℕ → Site X → Bit X
settled t byte s = settled_if t byte s s.joined (is_named byte s)

-- one tick, where more than one look is left
pub tick_one : {X : Type 0} (t : Table X) (byte r j : ℕ) (a : ℕ) (jd e h : Bool) (x : X)
    → where_joined tick (waiting_if t byte (suc (suc r)) j (site_of a jd e x) jd h) ≡ waiting_if t byte (suc r) (suc j)
    (site_of a jd e x) jd h
tick_one t byte r j a true e true x =
    let s = site_of a true e x in
    ap (λ n. stands (hears t s (is_reading byte)) (Answered true (acks_start t s (is_reading byte))
    (next_of (acks_start t s (is_reading byte)) (is_reading byte)) (suc r)) n) (omega arith)
tick_one t byte r j a true e false x = refl
tick_one t byte r j a false e h x = refl

-- a rise changes nothing of them
pub rise_one : {X : Type 0} (t : Table X) (byte r j : ℕ) (l : Bool) (a : ℕ) (jd e h : Bool) (x : X)
    → where_joined (λ b. rise t b l) (waiting_if t byte r j (site_of a jd e x) jd h) ≡ waiting_if t byte r j (site_of a jd e x) jd h
rise_one t byte r j l a true e true x = refl
rise_one t byte r j l a true e false x = refl
rise_one t byte r j l a false e h x = refl

pub holds_one : {X : Type 0} (t : Table X) (byte r j : ℕ) (a : ℕ) (jd e h : Bool) (x : X)
    → holds_line (waiting_if t byte r j (site_of a jd e x) jd h) ≡ stays_if t byte j (site_of a jd e x) jd h
holds_one t byte r j a true e true x = refl
holds_one t byte r j a true e false x = refl
holds_one t byte r j a false e h x = refl

pub pulls_one : {X : Type 0} (t : Table X) (byte r j : ℕ) (a : ℕ) (jd e h : Bool) (x : X)
    → pulls_line t (waiting_if t byte r j (site_of a jd e x) jd h) ≡ acknowledges_if t byte (site_of a jd e x) jd h
pulls_one t byte r j a true e true x = refl
pulls_one t byte r j a true e false x = refl
pulls_one t byte r j a false e h x = refl

pub gone : (n : ℕ) → not (n == 0) ≡ false → n ≡ 0
gone n h = grind (arith, nat_tests)

fall_one : {X : Type 0} (t : Table X) (byte r j : ℕ) (a : ℕ) (jd e h : Bool) (x : X) → stays_if t byte j (site_of a jd e x) jd h ≡ false
    → where_joined fall (waiting_if t byte r j (site_of a jd e x) jd h) ≡ settled_if t byte (site_of a jd e x) jd h
fall_one t byte r j a true e true x done =
    let s = site_of a true e x in
    ap (λ n. stands (hears t s (is_reading byte)) (entered (next_of (acks_start t s (is_reading byte)) (is_reading byte))) n)
    (gone (stretch t s (is_reading byte) - j) done)
fall_one t byte r j a true e false x done = refl
fall_one t byte r j a false e h x done = refl

pub or_left : (a b : Bool) → (a || b) ≡ false → a ≡ false
or_left true b h = h
or_left false b h = refl

pub or_right : (a b : Bool) → (a || b) ≡ false → b ≡ false
or_right true b h = cc
or_right false b h = h

pub fall_all : {X : Type 0} (t : Table X) (byte r j : ℕ) (ss : List (Site X)) → some_one (stays t byte j) ss ≡ false
    → map (where_joined fall) (map (waiting t byte r j) ss) ≡ map (settled t byte) ss
fall_all t byte r j [] done = refl
fall_all t byte r j (s ∷ ss) done =
    ap (λ b. b ∷ map (where_joined fall) (map (waiting t byte r j) ss))
    (fall_one t byte r j s.addr s.joined s.heard (is_named byte s) s.state (or_left _ _ done))
    ∙ ap (λ bs. settled t byte s ∷ bs) (fall_all t byte r j ss (or_right _ _ done))

-- the lines while they wait
abbrev pub wait_bus : {X : Type 0} → Table X → ℕ → ℕ → ℕ → List (Site X) → Seen → Bus X
wait_bus t byte r j ss c = bus_of false false (map (waiting t byte r j) ss) c

-- the level of SDA then, and what was seen after so many looks: SCL rises once nobody holds it
abbrev pub ack_level : {X : Type 0} → Table X → ℕ → List (Site X) → Bool
ack_level t byte ss = not (some_one (acknowledges t byte) ss)

abbrev pub seen_by : {X : Type 0} → Table X → ℕ → ℕ → List (Site X) → Seen → Seen
seen_by t byte j ss c = rose (some_one (stays t byte j) ss) (ack_level t byte ss) c

wait_sda : {X : Type 0} (t : Table X) (byte r j : ℕ) (ss : List (Site X)) → sda t (map (waiting t byte r j) ss) true ≡ ack_level t byte ss
wait_sda t byte r j ss =
    ap not (some_map (waiting t byte r j) (pulls_line t) (acknowledges t byte)
    (λ s. pulls_one t byte r j s.addr s.joined s.heard (is_named byte s) s.state) ss)

pub rise_wait : {X : Type 0} (t : Table X) (byte r j : ℕ) (ss : List (Site X)) (c : Seen)
    → rises t (wait_bus t byte r j ss c) ≡ wait_bus t byte r j ss (Level (ack_level t byte ss) ∷ c)
rise_wait t byte r j ss c =
    let l : Bool = sda t (map (waiting t byte r j) ss) true in
    ap (λ bs. bus_of false false bs (Level l ∷ c))
    (map_step (waiting t byte r j) (waiting t byte r j) _ (λ s. rise_one t byte r j l s.addr s.joined s.heard (is_named byte s) s.state) ss)
    ∙ ap (λ k. wait_bus t byte r j ss (Level k ∷ c)) (wait_sda t byte r j ss)

pub by_busy : {A : Type 0} (f : Seen → A) (c : Seen) (high b up : Bool) (x y : A) → up ≡ not b → x ≡ f (Level high ∷ c) → y ≡ f c
    → cond up x y ≡ f (rose b high c)
by_busy f c high true up x y is h g = ap (λ u. cond u x y) is ∙ g
by_busy f c high false up x y is h g = ap (λ u. cond u x y) is ∙ h

pub wait_level : {X : Type 0} (t : Table X) (byte r j : ℕ) (ss : List (Site X)) (c : Seen)
    → scl_level (wait_bus t byte r j ss c) ≡ not (some_one (stays t byte j) ss)
wait_level t byte r j ss c =
    ap not
    (some_map (waiting t byte r j) holds_line (stays t byte j) (λ s. holds_one t byte r j s.addr s.joined s.heard
    (is_named byte s) s.state) ss)

-- SCL is let go for the acknowledge clock
pub let_go : {X : Type 0} (t : Table X) (byte r j : ℕ) (ss : List (Site X)) (c : Seen)
    → cond (scl_level (wait_bus t byte r j ss c)) (rises t (wait_bus t byte r j ss c)) (wait_bus t byte r j ss c)
    ≡ wait_bus t byte r j ss (seen_by t byte j ss c)
let_go t byte r j ss c =
    by_busy (wait_bus t byte r j ss) c (ack_level t byte ss) (some_one (stays t byte j) ss) _ _ _ (wait_level t byte r j ss c)
    (rise_wait t byte r j ss c) refl

tick_wait : {X : Type 0} (t : Table X) (byte r j : ℕ) (ss : List (Site X)) (c : Seen)
    → each tick (wait_bus t byte (suc (suc r)) j ss c) ≡ wait_bus t byte (suc r) (suc j) ss c
tick_wait t byte r j ss c =
    ap (λ bs. bus_of false false bs c) (map_step (waiting t byte (suc (suc r)) j) (waiting t byte (suc r) (suc j)) _
    (λ s. tick_one t byte r j s.addr s.joined s.heard (is_named byte s) s.state) ss)

look_wait : {X : Type 0} (t : Table X) (byte r j : ℕ) (ss : List (Site X)) (c : Seen) → some_one (stays t byte j) ss ≡ true
    → looked t (wait_bus t byte (suc (suc r)) j ss c) ≡ wait_bus t byte (suc r) (suc j) ss (seen_by t byte (suc j) ss c)
unfolding looked
look_wait {X} t byte r j ss c busy =
    let w : Bus X = wait_bus t byte (suc (suc r)) j ss c in
    ap (λ u. cond u w (cond (scl_level (each tick w)) (rises t (each tick w)) (each tick w)))
    (wait_level t byte (suc (suc r)) j ss c ∙ ap not busy)
    ∙ (ap (λ v. cond (scl_level v) (rises t v) v) (tick_wait t byte r j ss c) ∙ let_go t byte (suc r) (suc j) ss c)

abbrev pub Acked : {X : Type 0} → Table X → ℕ → ℕ → List (Site X) → Seen → Came X
Acked t byte v ss c =
    came_up (shifted v (ack_level t byte ss)) (bus_of true false (map (settled t byte) ss) (Level (ack_level t byte ss) ∷ c))

comes_up : {X : Type 0} (t : Table X) (mask : Mask X) (byte v n r j : ℕ) (ss : List (Site X)) (c : Seen)
    → some_one (stays t byte j) ss ≡ false
    → closed t mask true (await t v (suc n) (wait_bus t byte r j ss (seen_by t byte j ss c))) ≡ Acked t byte v ss c
comes_up {X} t mask byte v n r j ss c done =
    let d : Seen = Level (ack_level t byte ss) ∷ c in
    let w : Bus X = wait_bus t byte r j ss d in
    let up : scl_level w ≡ true = wait_level t byte r j ss d ∙ ap not done in
    ap (λ b. closed t mask true (await t v (suc n) (wait_bus t byte r j ss (rose b (ack_level t byte ss) c)))) done
    ∙ (ap (closed t mask true) (looks_up t v n w up)
    ∙ (ap (λ b. came_up (shifted v (sda_level t w)) b)
    (goes_down t mask w false up ∙ ap (λ bs. bus_of true false bs d) (fall_all t byte r j ss done))
    ∙ ap (λ l. came_up (shifted v l) (bus_of true false (map (settled t byte) ss) d)) (wait_sda t byte r j ss)))

-- a low look
pub goes_on : {X : Type 0} (t : Table X) (byte v n r j : ℕ) (ss : List (Site X)) (c : Seen) → some_one (stays t byte j) ss ≡ true
    → await t v (suc n) (wait_bus t byte (suc (suc r)) j ss (seen_by t byte j ss c))
    ≡ await t v n (wait_bus t byte (suc r) (suc j) ss (seen_by t byte (suc j) ss c))
unfolding await
goes_on {X} t byte v n r j ss c busy =
    let w : Bus X = wait_bus t byte (suc (suc r)) j ss c in
    ap (λ b. await t v (suc n) (wait_bus t byte (suc (suc r)) j ss (rose b (ack_level t byte ss) c))) busy
    ∙ (ap (λ u. cond {A = Came X} u (came_up (shifted v (sda_level t w)) (looked t w)) (await t v n (looked t w)))
    (wait_level t byte (suc (suc r)) j ss c ∙ ap not busy)
    ∙ ap (await t v n) (look_wait t byte r j ss c busy))

-- who holds SCL for at most 64 looks lets it come up in time: one level, and nothing that is left tells for how many looks
pub ack_clock : {X : Type 0} (t : Table X) (mask : Mask X) (byte v n j : ℕ) (ss : List (Site X)) (c : Seen) → suc n + j ≡ 65
    → some_one (stays t byte 64) ss ≡ false
    → (b : Bool) → some_one (stays t byte j) ss ≡ b
    → closed t mask true (await t v (suc n) (wait_bus t byte (suc n) j ss (seen_by t byte j ss c))) ≡ Acked t byte v ss c
ack_clock t mask byte v n j ss c sum quick false is = comes_up t mask byte v n (suc n) j ss c is
ack_clock t mask byte v zero j ss c sum quick true is =
    let e : j ≡ 64 = omega arith in let p : true ≡ false = sym is ∙ (ap (λ m. some_one (stays t byte m) ss) e ∙ quick) in cc
ack_clock t mask byte v (suc n) j ss c sum quick true is =
    ap (closed t mask true) (goes_on t byte v (suc n) n j ss c is)
    ∙ ack_clock t mask byte v n (suc j) ss c (omega arith) quick (some_one (stays t byte (suc j)) ss) refl

-- ---- what the clock leaves is what the world of bytes has after the start
mode_same : {X : Type 0} (a : ℕ) (x : X) (k reading slow : Bool) → slow ≡ false
    → stands (site_of a true (k || slow) x) (entered (next_of k reading)) 0
    ≡ at (cond reading (Give 8) (In false 8 0)) (site_of a true (k || slow) x)
mode_same a x true true slow quick = refl
mode_same a x true false slow quick = refl
mode_same a x false reading false quick = refl
mode_same a x false reading true quick = cc

-- it answers Slow
abbrev pub slows_if : {X : Type 0} → Table X → ℕ → Site X → Bool → Bool → Bool
slows_if t byte s true true = is_slow (t.answer s.state (Start (is_reading byte)))
slows_if t byte s true false = false
slows_if t byte s false h = false

abbrev pub slows : {X : Type 0} → Table X → ℕ → Site X → Bool
slows t byte s = slows_if t byte s s.joined (is_named byte s)

abbrev start_if : {X : Type 0} → Table X → ℕ → Site X → Bool → Bool → Site X
start_if t byte s true true = hears t s (is_reading byte)
start_if t byte s true false = other t s
start_if t byte s false h = s

start_is : {X : Type 0} (t : Table X) (byte : ℕ) (s : Site X) (jd h : Bool)
    → start_if t byte s jd h ≡ cond jd (cond h (hears t s (is_reading byte)) (other t s)) s
start_is t byte s true true = refl
start_is t byte s true false = refl
start_is t byte s false h = refl

-- whoever was not named isn't in the message before either
settled_one : {X : Type 0} (t : Table X) (byte : ℕ) (a : ℕ) (jd e h : Bool) (x : X) → slows_if t byte (site_of a jd e x) jd h ≡ false
    → settled_if t byte (site_of a jd e x) jd h ≡ at (cond (is_reading byte) (Give 8) (In false 8 0))
    (start_if t byte (site_of a jd e x) jd h)
settled_one t byte a true e true x quick =
    mode_same a (t.after x (Start (is_reading byte))) (acks_start t (site_of a true e x) (is_reading byte)) (is_reading byte)
    (is_slow (t.answer x (Start (is_reading byte)))) quick
settled_one t byte a true e false x quick = refl
settled_one t byte a false e h x quick = refl

pub settled_all : {X : Type 0} (t : Table X) (byte : ℕ) (ss : List (Site X)) → some_one (slows t byte) ss ≡ false
    → map (settled t byte) ss ≡ map (at (cond (is_reading byte) (Give 8) (In false 8 0))) (map
    (start_site t (byte / 2) (is_reading byte)) ss)
settled_all t byte [] quick = refl
settled_all t byte (s ∷ ss) quick =
    ap (λ b. b ∷ map (settled t byte) ss) (settled_one t byte s.addr s.joined s.heard (is_named byte s) s.state (or_left _ _ quick)
    ∙ ap (at (cond (is_reading byte) (Give 8) (In false 8 0))) (start_is t byte s s.joined (is_named byte s)))
    ∙ ap (λ bs. at (cond (is_reading byte) (Give 8) (In false 8 0)) (start_site t (byte / 2) (is_reading byte) s) ∷ bs)
    (settled_all t byte ss (or_right _ _ quick))

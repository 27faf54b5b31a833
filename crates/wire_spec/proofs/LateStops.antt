-- The stop after a slow start: who still holds SCL lets it come up within 255 looks.
use Rattle.wire_spec.proofs.Cited.{◌≡◌, ℕ, zero, suc, ◌+◌, ◌-◌, Bool, true, false, cond, List, [], ◌∷◌, map, refl, ap, sym, ◌∙◌, arith}
use Rattle.wire_spec.proofs.Cited.{◌==◌, ◌||◌, not, Table, Out, site_of, Site, Bit, shifted, rise, tick, begin, finish, hears, other}
use Rattle.wire_spec.proofs.Cited.{stretch, is_named, is_reading, stands, some_one, pulls_line, sda, where_joined, stop_site, Mask, Seen, Level, Started, Stopped}
use Rattle.wire_spec.proofs.Cited.{Bus, Came, edge, holds_line, scl_level, sda_level, each, rises, bus_of, came_up}
use Rattle.wire_spec.proofs.Cited.{calling, stays_if, stays, late_if, late, late_bus, rose, started, released, rejoin, stopped, slow_stop}
use Rattle.wire_spec.specs.Bus.{pulled, looked, await}
use Rattle.wire_spec.proofs.Roots.{map_step, map_map, some_map, no_one}
use Rattle.wire_spec.proofs.Calm.{looks_up}
use Rattle.wire_spec.proofs.AckClock.{by_busy}
use Rattle.wire_spec.proofs.SlowClock.{late_holds, late_free}
use Rattle.wire_spec.proofs.StartClocks.{begin_run, call_low}
use Rattle.wire_spec.proofs.Stops.{stop_run}
use Rattle.wire_spec.proofs.Address.{call_quiet}

-- released, with so much of a hold left before the looks, of which so many were made
abbrev pub resting_if : {X : Type 0} → Site X → ℕ → ℕ → Bool → Bit X
resting_if s h j true = stands s Out (h - j)
resting_if s h j false = released s

abbrev pub resting : {A X : Type 0} → (A → Site X) → (A → ℕ) → ℕ → A → Bit X
resting g rest j a = resting_if (g a) (rest a) j (g a).joined

abbrev pub held_if : ℕ → ℕ → Bool → Bool
held_if h j true = not ((h - j) == 0)
held_if h j false = false

abbrev pub held : {A X : Type 0} → (A → Site X) → (A → ℕ) → ℕ → A → Bool
held g rest j a = held_if (rest a) j (g a).joined

pub tick_r : {X : Type 0} (h j a : ℕ) (jd e : Bool) (x : X)
    → where_joined tick (resting_if (site_of a jd e x) h j jd) ≡ resting_if (site_of a jd e x) h (suc j) jd
tick_r h j a true e x = ap (λ n. stands (site_of a true e x) Out n) (omega arith)
tick_r h j a false e x = refl

pub rise_r : {X : Type 0} (t : Table X) (l : Bool) (h j a : ℕ) (jd e : Bool) (x : X)
    → where_joined (λ b. rise t b l) (resting_if (site_of a jd e x) h j jd) ≡ resting_if (site_of a jd e x) h j jd
rise_r t l h j a true e x = refl
rise_r t l h j a false e x = refl

pub holds_r : {X : Type 0} (h j a : ℕ) (jd e : Bool) (x : X) → holds_line (resting_if (site_of a jd e x) h j jd) ≡ held_if h j jd
holds_r h j a true e x = refl
holds_r h j a false e x = refl

pulls_r : {X : Type 0} (t : Table X) (h j a : ℕ) (jd e : Bool) (x : X) → pulls_line t (resting_if (site_of a jd e x) h j jd) ≡ false
pulls_r t h j a true e x = refl
pulls_r t h j a false e x = refl

finish_r : {X : Type 0} (t : Table X) (h j a : ℕ) (jd e : Bool) (x : X)
    → where_joined (finish t) (resting_if (site_of a jd e x) h j jd) ≡ released (stop_site t (site_of a jd e x))
finish_r t h j a true e x = refl
finish_r t h j a false e x = refl

abbrev pub rest_bus : {A X : Type 0} → (A → Site X) → (A → ℕ) → ℕ → List A → Seen → Bus X
rest_bus g rest j ss c = bus_of false true (map (resting g rest j) ss) c

pub rest_level : {A X : Type 0} (g : A → Site X) (rest : A → ℕ) (j : ℕ) (ss : List A) (c : Seen)
    → scl_level (rest_bus g rest j ss c) ≡ not (some_one (held g rest j) ss)
rest_level g rest j ss c =
    ap not (some_map (resting g rest j) holds_line (held g rest j) (λ s. holds_r (rest s) j (g s).addr (g s).joined (g s).heard
    (g s).state) ss)

rest_rises : {A X : Type 0} (t : Table X) (g : A → Site X) (rest : A → ℕ) (j : ℕ) (ss : List A) (c : Seen)
    → rises t (rest_bus g rest j ss c) ≡ rest_bus g rest j ss (Level false ∷ c)
rest_rises t g rest j ss c =
    ap (λ bs. bus_of false true bs (Level false ∷ c))
    (map_step (resting g rest j) (resting g rest j) _ (λ s. rise_r t (sda t (map (resting g rest j) ss) false) (rest s) j (g s).addr
    (g s).joined
    (g s).heard (g s).state) ss)

look_rest : {A X : Type 0} (t : Table X) (g : A → Site X) (rest : A → ℕ) (j : ℕ) (ss : List A) (c : Seen)
    → some_one (held g rest j) ss ≡ true
    → looked t (rest_bus g rest j ss c) ≡ rest_bus g rest (suc j) ss (rose (some_one (held g rest (suc j)) ss) false c)
unfolding looked
look_rest {A} {X} t g rest j ss c busy =
    let w : Bus X = rest_bus g rest j ss c in
    let e : each tick w ≡ rest_bus g rest (suc j) ss c =
    ap (λ bs. bus_of false true bs c)
    (map_step (resting g rest j) (resting g rest (suc j)) _ (λ s. tick_r (rest s) j (g s).addr (g s).joined (g s).heard (g s).state) ss) in
    ap (λ u. cond u w (cond (scl_level (each tick w)) (rises t (each tick w)) (each tick w))) (rest_level g rest j ss c ∙ ap not busy)
    ∙ (ap (λ v. cond (scl_level v) (rises t v) v) e
    ∙ by_busy (rest_bus g rest (suc j) ss) c false (some_one (held g rest (suc j)) ss) _ _ _ (rest_level g rest (suc j) ss c)
    (rest_rises t g rest (suc j) ss c) refl)

abbrev pub stopped_bus : {X : Type 0} → Table X → (List (Site X) → ℕ → Bool) → List (Site X) → Seen → Bus X
stopped_bus t mask ss c = bus_of false false (map released (rejoin mask (map (stop_site t) ss))) c

stop_up : {A X : Type 0} (t : Table X) (mask : Mask X) (g : A → Site X) (rest : A → ℕ) (v n j : ℕ) (ss : List A) (c : Seen)
    → some_one (held g rest j) ss ≡ false
    → stopped t mask (await t v (suc n) (rest_bus g rest j ss c)) ≡ (true, stopped_bus t mask (map g ss) (Stopped ∷ c))
stop_up {A} {X} t mask g rest v n j ss c done =
    let w : Bus X = rest_bus g rest j ss c in
    let low : some_one holds_line (map (resting g rest j) ss) ≡ false =
    some_map (resting g rest j) holds_line (held g rest j) (λ s. holds_r (rest s) j (g s).addr (g s).joined (g s).heard (g s).state) ss
    ∙ done in
    ap (stopped t mask) (looks_up t v n w (rest_level g rest j ss c ∙ ap not done))
    ∙ ap (λ (u : Bus X). (true, u))
    (stop_run t mask (resting g rest j) g ss c (λ s. finish_r t (rest s) j (g s).addr (g s).joined (g s).heard (g s).state) low
    (λ s. pulls_r t (rest s) j (g s).addr (g s).joined (g s).heard (g s).state))

rest_on : {A X : Type 0} (t : Table X) (g : A → Site X) (rest : A → ℕ) (v n j : ℕ) (ss : List A) (c : Seen)
    → some_one (held g rest j) ss ≡ true
    → await t v (suc n) (rest_bus g rest j ss c) ≡ await t v n (rest_bus g rest (suc j) ss (rose (some_one (held g rest (suc j)) ss) false c))
unfolding await
rest_on {A} {X} t g rest v n j ss c busy =
    let w : Bus X = rest_bus g rest j ss c in
    ap (λ u. cond {A = Came X} u (came_up (shifted v (sda_level t w)) (looked t w)) (await t v n (looked t w)))
    (rest_level g rest j ss c ∙ ap not busy)
    ∙ ap (await t v n) (look_rest t g rest j ss c busy)

-- where nobody holds SCL at the last of 255 looks, the stop goes through: SCL rises with SDA low, and a stop is seen
pub late_stop : {A X : Type 0} (t : Table X) (mask : Mask X) (g : A → Site X) (rest : A → ℕ) (v n j : ℕ) (ss : List A) (c : Seen)
    → suc n + j ≡ 255
    → some_one (held g rest 254) ss ≡ false
    → (b : Bool) → some_one (held g rest j) ss ≡ b
    → stopped t mask (await t v (suc n) (rest_bus g rest j ss (rose (some_one (held g rest j) ss) false c)))
    ≡ (true, stopped_bus t mask (map g ss) (Stopped ∷ Level false ∷ c))
late_stop t mask g rest v n j ss c sum quick false is =
    ap (λ b. stopped t mask (await t v (suc n) (rest_bus g rest j ss (rose b false c)))) is ∙ stop_up t mask g rest v n j ss (Level false ∷ c) is
late_stop t mask g rest v zero j ss c sum quick true is =
    let e : j ≡ 254 = omega arith in let p : true ≡ false = sym is ∙ (ap (λ m. some_one (held g rest m) ss) e ∙ quick) in cc
late_stop t mask g rest v (suc n) j ss c sum quick true is =
    ap (λ b. stopped t mask (await t v (suc (suc n)) (rest_bus g rest j ss (rose b false c)))) is
    ∙ (ap (stopped t mask) (rest_on t g rest v (suc n) j ss c is)
    ∙ late_stop t mask g rest v n (suc j) ss c (omega arith) quick (some_one (held g rest (suc j)) ss) refl)

-- ---- after a start that was too slow: who held SCL lets it come up, and all that is joined is stopped
abbrev pub left_hold : {X : Type 0} → Table X → ℕ → Site X → ℕ
left_hold t byte s = cond (is_named byte s) (stretch t s (is_reading byte) - 65) 0

abbrev pub started_if : {X : Type 0} → Table X → ℕ → Site X → Bool → Bool → Site X
started_if t byte s jd h = cond jd (cond h (hears t s (is_reading byte)) (other t s)) s

late_is : {X : Type 0} (t : Table X) (byte a : ℕ) (jd e h : Bool) (x : X)
    → late_if t byte (site_of a jd e x) jd h
    ≡ resting_if (started_if t byte (site_of a jd e x) jd h) (cond h (stretch t (site_of a jd e x) (is_reading byte) - 65) 0) 0
    (started_if t byte (site_of a jd e x) jd h).joined
late_is t byte a true e true x =
    let s = site_of a true e x in ap (λ n. stands (hears t s (is_reading byte)) Out n) (omega arith)
late_is t byte a true e false x = refl
late_is t byte a false e h x = refl

late_held : {X : Type 0} (t : Table X) (byte a : ℕ) (jd e h : Bool) (x : X)
    → stays_if t byte 65 (site_of a jd e x) jd h
    ≡ held_if (cond h (stretch t (site_of a jd e x) (is_reading byte) - 65) 0) 0 (started_if t byte (site_of a jd e x) jd h).joined
late_held t byte a true e true x = let s = site_of a true e x in ap (λ n. not (n == 0)) (omega arith)
late_held t byte a true e false x = refl
late_held t byte a false e h x = refl

late_begin : {X : Type 0} (t : Table X) (byte a : ℕ) (jd e h : Bool) (x : X)
    → where_joined begin (late_if t byte (site_of a jd e x) jd h) ≡ calling 8 0 (started_if t byte (site_of a jd e x) jd h)
late_begin t byte a true e true x = refl
late_begin t byte a true e false x = refl
late_begin t byte a false e h x = refl

pub finish_call : {X : Type 0} (t : Table X) (a : ℕ) (jd e : Bool) (x : X)
    → where_joined (finish t) (calling 8 0 (site_of a jd e x)) ≡ released (stop_site t (site_of a jd e x))
finish_call t a true e x = refl
finish_call t a false e x = refl

low_pull : {X : Type 0} (t : Table X) (mask : Mask X) (ts : List (Bit X)) (c : Seen) → some_one holds_line ts ≡ true
    → pulled t mask (bus_of false false ts c) false true
    ≡ bus_of false true ts c
unfolding pulled
low_pull {X} t mask ts c busy =
    let w : Bus X = bus_of false true ts c in
    ap (λ b. edge t mask (not b) (sda_level t (bus_of false false ts c)) w) busy
    ∙ ap (λ b. cond {A = Bus X} (not b) (rises t w) w) busy

pub late_map : {X : Type 0} (t : Table X) (byte : ℕ) (ss : List (Site X)) → map (late t byte) ss ≡ map
    (resting (started t byte) (left_hold t byte) 0) ss
late_map t byte [] = refl
late_map t byte (s ∷ ss) =
    ap (λ b. b ∷ map (late t byte) ss) (late_is t byte s.addr s.joined s.heard (is_named byte s) s.state)
    ∙ ap (λ bs. resting (started t byte) (left_hold t byte) 0 s ∷ bs) (late_map t byte ss)

pub held_same : {X : Type 0} (t : Table X) (byte : ℕ) (ss : List (Site X))
    → some_one (stays t byte 65) ss ≡ some_one (held (started t byte) (left_hold t byte) 0) ss
held_same t byte [] = refl
held_same t byte (s ∷ ss) =
    ap (λ b. b || some_one (stays t byte 65) ss) (late_held t byte s.addr s.joined s.heard (is_named byte s) s.state)
    ∙ ap (λ b. held (started t byte) (left_hold t byte) 0 s || b) (held_same t byte ss)

-- someone still holds SCL
held_stop : {X : Type 0} (t : Table X) (mask : Mask X) (byte : ℕ) (ss : List (Site X)) (c : Seen)
    → some_one (stays t byte 65) ss ≡ true → some_one (held (started t byte) (left_hold t byte) 254) ss ≡ false
    → slow_stop t mask (late_bus t byte ss c) ≡ (true, stopped_bus t mask (map (started t byte) ss) (Stopped ∷ Level false ∷ c))
held_stop {X} t mask byte ss c busy quick =
    let line : some_one holds_line (map (late t byte) ss) ≡ true =
    some_map (late t byte) holds_line (stays t byte 65) (λ s. late_holds t byte s.addr s.joined s.heard (is_named byte s) s.state) ss
    ∙ busy in
    let is : some_one (held (started t byte) (left_hold t byte) 0) ss ≡ true = sym (held_same t byte ss) ∙ busy in
    ap (λ u. stopped t mask (await t 0 255 u)) (low_pull t mask (map (late t byte) ss) c line)
    ∙ (ap (λ bs. stopped t mask (await t 0 255 (bus_of false true bs c))) (late_map t byte ss)
    ∙ (ap (λ b. stopped t mask (await t 0 255 (rest_bus (started t byte) (left_hold t byte) 0 ss (rose b false c)))) (sym is)
    ∙ late_stop t mask (started t byte) (left_hold t byte) 0 254 0 ss c (omega arith) quick
    (some_one (held (started t byte) (left_hold t byte) 0) ss) refl))

-- SCL came up at the last look: on the wire the pull of SDA is a start
risen_stop : {X : Type 0} (t : Table X) (mask : Mask X) (byte : ℕ) (ss : List (Site X)) (c : Seen)
    → some_one (stays t byte 65) ss ≡ false
    → slow_stop t mask (late_bus t byte ss c) ≡ (true, stopped_bus t mask (map (started t byte) ss) (Stopped ∷ Started ∷ c))
risen_stop {X} t mask byte ss c free =
    let line : some_one holds_line (map (late t byte) ss) ≡ false =
    some_map (late t byte) holds_line (stays t byte 65) (λ s. late_holds t byte s.addr s.joined s.heard (is_named byte s) s.state) ss
    ∙ free in
    let gs : List (Site X) = map (started t byte) ss in
    let w : Bus X = bus_of false true (map (calling 8 0) gs) (Started ∷ c) in
    let low : some_one holds_line (map (calling 8 0) gs) ≡ false =
    some_map (calling 8 0) holds_line (λ x. false) (λ s. call_low 8 0 s.addr s.joined s.heard s.state) gs ∙ no_one gs in
    ap (λ u. stopped t mask (await t 0 255 u))
    (begin_run t mask (late t byte) (started t byte) ss c (λ s. late_begin t byte s.addr s.joined s.heard (is_named byte s) s.state) line
    (λ s. late_free t byte s.addr s.joined s.heard (is_named byte s) s.state))
    ∙ (ap (stopped t mask) (looks_up t 0 254 w (ap not low))
    ∙ (ap (λ (u : Bus X). (true, u)) (stop_run t mask (calling 8 0) (λ (s : Site X). s) gs (Started ∷ c)
    (λ s. finish_call t s.addr s.joined s.heard s.state) low (λ s. call_quiet t 8 0 s.addr s.joined s.heard s.state))
    ∙ ap (λ xs. (true, stopped_bus t mask xs (Stopped ∷ Started ∷ c))) (map_map (started t byte) (λ (s : Site X). s) ss)))

-- the stop after a slow start always goes through, and acts as a stop of what the start left
pub stop_after_slow : {X : Type 0} (t : Table X) (mask : Mask X) (byte : ℕ) (ss : List (Site X)) (c : Seen)
    → some_one (held (started t byte) (left_hold t byte) 254) ss ≡ false → (b : Bool) → some_one (stays t byte 65) ss ≡ b
    → slow_stop t mask (late_bus t byte ss c) ≡ (
      true,
      stopped_bus t mask (map (started t byte) ss)
          (Stopped ∷ cond b (Level false ∷ c) (Started ∷ c)),
    )
stop_after_slow t mask byte ss c quick true is = held_stop t mask byte ss c is quick
stop_after_slow t mask byte ss c quick false is = risen_stop t mask byte ss c is

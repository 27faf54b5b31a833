-- The rise of the acknowledge clock of a read that is cut off: in time, or so late that all have let SDA go.
use Rattle.bus_clear.proofs.Cited.{◌≡◌, ℕ, zero, suc, ◌+◌, ◌-◌, ◌/◌, ◌≤◌, Bool, true, false, cond, List, [], ◌∷◌, map, refl, ap, sym, ◌∙◌}
use Rattle.bus_clear.proofs.Cited.{arith, subst, not, AllByRecursion, IsByte, Table, IsFairTable, is_ack, Out, Give, Site, Bit, site_of}
use Rattle.bus_clear.proofs.Cited.{shifted, fall, tick, begin, is_named, is_reading, stands, some_one, pulls_line, sda, where_joined, at}
use Rattle.bus_clear.proofs.Cited.{Seen, Level, Mask, Bus, Came, holds_line, scl_level, sda_level, each, rises, bus_of, came_up, gave_up}
use Rattle.bus_clear.proofs.Cited.{calling, started, stays, answers_so, released, map_step, map_map, some_map, free_sda, looks_up}
use Rattle.bus_clear.proofs.Cited.{goes_down, sets_data, waiting, wait_bus, seen_by, stays_free}
use Rattle.wire_spec.specs.declared.mode.Mode.TheVariants.{In}
use Rattle.wire_spec.specs.Bus.{pulled, looked, await}
use Rattle.wire_spec.specs.Started.{late_bus, rose}
use Rattle.wire_spec.proofs.AckClock.{waiting_if, acknowledges, wait_level, let_go, goes_on, settled_all, by_busy, or_left, or_right}
use Rattle.wire_spec.proofs.AckClock.{fall_all, pulls_one, gone}
use Rattle.wire_spec.proofs.SlowClock.{slow_clock}
use Rattle.wire_spec.proofs.StartLemmas.{ack_all, not_slow}
use Rattle.wire_spec.proofs.StartLaws.{late_all}
use Rattle.wire_spec.proofs.LateStops.{resting, resting_if, held, held_if, left_hold, started_if, late_map, held_same, tick_r, rise_r}
use Rattle.wire_spec.proofs.LateStops.{holds_r}
use Rattle.bus_clear.specs.Pulls.{cut_rise}
use Rattle.bus_clear.proofs.AddressLemmas.{Frees, frees_at_once}

begin_one : {X : Type 0} (t : Table X) (byte r j : ℕ) (a : ℕ) (jd e h : Bool) (x : X)
    → where_joined begin (waiting_if t byte r j (site_of a jd e x) jd h) ≡ calling 8 0 (started_if t byte (site_of a jd e x) jd h)
begin_one t byte r j a true e true x = refl
begin_one t byte r j a true e false x = refl
begin_one t byte r j a false e h x = refl

-- the lines at the rise: nobody holds SCL any longer
pub record InTime {X : Type 0} (t : Table X) (byte : ℕ) (ss : List (Site X)) (w : Bus X) : Type 0 where
  pub left : ℕ
  pub made : ℕ
  pub seen : Seen
  pub is : w ≡ wait_bus t byte left made ss seen
  pub quiet : some_one (stays t byte made) ss ≡ false

module _ {X : Type 0} (t : Table X) (byte : ℕ) (ss : List (Site X)) where
  waits_by : (r j n : ℕ) (c : Seen) → suc r + j ≡ 65 → r ≤ n → some_one (stays t byte 64) ss ≡ false
      → (b : Bool) → some_one (stays t byte j) ss ≡ b
      → InTime t byte ss (await t 0 (suc n) (wait_bus t byte (suc r) j ss (seen_by t byte j ss c))).bus
  waits_by r j n c sum le quick false is =
      let d : Seen = seen_by t byte j ss c in
      record {
        left = suc r;
        made = j;
        seen = d;
        is = ap (λ (x : Came X). x.bus) (looks_up t 0 n (wait_bus t byte (suc r) j ss d) (wait_level t byte (suc r) j ss d ∙ ap not is));
        quiet = is;
      }
  waits_by zero j n c sum le quick true is =
      let e : j ≡ 64 = omega (arith, sum) in
      let p : true ≡ false = sym is ∙ (ap (λ m. some_one (stays t byte m) ss) e ∙ quick) in cc
  waits_by (suc r) j zero c sum le quick true is = absurd (omega (arith, le))
  waits_by (suc r) j (suc n) c sum le quick true is =
      subst (λ (x : Came X). InTime t byte ss x.bus) (sym (goes_on t byte 0 (suc n) r j ss c is))
      (waits_by r (suc j) n c (omega (arith, sum)) (omega (arith, le)) quick (some_one (stays t byte (suc j)) ss) refl)

  goes : (mask : Mask X) (c : Seen)
      → pulled t mask (bus_of true false (map (waiting t byte 65 0) ss) c) false false ≡ wait_bus t byte 65 0 ss
      (seen_by t byte 0 ss c)
  unfolding pulled
  goes mask c = let_go t byte 65 0 ss c

  rise_is : (mask : Mask X) (low : Bool) (c : Seen)
      → cut_rise t mask true (bus_of true low (map (waiting t byte 65 0) ss) c)
      ≡ (await t 0 255 (wait_bus t byte 65 0 ss (seen_by t byte 0 ss c))).bus
  unfolding cut_rise
  rise_is mask low c =
      ap (λ u. (await t 0 255 (pulled t mask u false false)).bus) (sets_data t mask (map (waiting t byte 65 0) ss) c low false)
      ∙ ap (λ u. (await t 0 255 u).bus) (goes mask c)

  pub ninth_in_time : (mask : Mask X) (low : Bool) (c : Seen) → some_one (stays t byte 64) ss ≡ false
      → InTime t byte ss (cut_rise t mask true (bus_of true low (map (waiting t byte 65 0) ss) c))
  ninth_in_time mask low c quick =
      subst (InTime t byte ss) (sym (rise_is mask low c))
      (waits_by 64 0 254 c (omega arith) (omega arith) quick (some_one (stays t byte 0) ss) refl)

  -- letting go what is let go
  pub still : (mask : Mask X) (w : Bus X) → InTime t byte ss w → pulled t mask w false false ≡ w
  still mask w i =
      ap (λ u. pulled t mask u false false) i.is
      ∙ (stays_free t mask (map (waiting t byte i.left i.made) ss) i.seen ∙ sym i.is)

  pub in_time_up : (w : Bus X) → InTime t byte ss w → scl_level w ≡ true
  in_time_up w i = ap scl_level i.is ∙ (wait_level t byte i.left i.made ss i.seen ∙ ap not i.quiet)

  -- SDA is low where one acknowledges
  pub in_time_level : (w : Bus X) → InTime t byte ss w
      → sda_level t w ≡ not (some_one (answers_so t is_ack (byte / 2) (is_reading byte)) ss)
  in_time_level w i =
      ap (sda_level t) i.is
      ∙ ap not (some_map (waiting t byte i.left i.made) (pulls_line t) (acknowledges t byte)
      (λ s. pulls_one t byte i.left i.made s.addr s.joined s.heard (is_named byte s) s.state) ss ∙ ack_all t byte ss)

  -- a start and a stop there
  pub in_time_frees : (mask : Mask X) (w : Bus X) → InTime t byte ss w
      → some_one (answers_so t is_ack (byte / 2) (is_reading byte)) ss ≡ false → Frees t mask 0 true (map (started t byte) ss) w
  in_time_frees mask w i none =
      let bs : List (Bit X) = map (waiting t byte i.left i.made) ss in
      subst (Frees t mask 0 true (map (started t byte) ss)) (sym i.is)
      (frees_at_once t mask bs (map (started t byte) ss) i.seen
      (map_step (waiting t byte i.left i.made) (λ s. calling 8 0 (started t byte s)) _
      (λ s. begin_one t byte i.left i.made s.addr s.joined s.heard (is_named byte s) s.state) ss
      ∙ sym (map_map (started t byte) (calling 8 0) ss))
      (ap scl_level (sym i.is) ∙ in_time_up w i)
      (ap (sda_level t) (sym i.is) ∙ (in_time_level w i ∙ ap not none)))

  -- and its fall
  pub in_time_falls : IsFairTable t → (mask : Mask X) (w : Bus X) (i : InTime t byte ss w) → some_one (stays t byte 64) ss ≡ false
      → is_reading byte ≡ true
      → pulled t mask w true false ≡ bus_of true false (map (at (Give 8)) (map (started t byte) ss)) i.seen
  in_time_falls fair mask w i quick reads =
      let bs : List (Bit X) = map (waiting t byte i.left i.made) ss in
      goes_down t mask w false (in_time_up w i)
      ∙ (ap (λ (u : Bus X). bus_of true false (map (where_joined fall) u.targets) u.seen) i.is
      ∙ ap (λ us. bus_of true false us i.seen)
      (fall_all t byte i.left i.made ss i.quiet
      ∙ (settled_all t byte ss (not_slow t fair byte ss quick)
      ∙ ap (λ r. map (at (cond r (Give 8) (In false 8 0))) (map (started t byte) ss)) reads)))

-- all are out of the message, and the lines are let go
pub record OutOn {X : Type 0} (gs : List (Site X)) (w : Bus X) : Type 0 where
  pub seen : Seen
  pub is : w ≡ bus_of false false (map released gs) seen

-- ---- too late: all are out of the message, and SCL comes up within 255 looks
more_if : {X : Type 0} (high : Bool) (a b d : Came X) (w1 : Bus X) → a.up ≡ true → (b ≡ gave_up w1 → d ≡ d) → cond high a b ≡ gave_up w1
    → high ≡ false
more_if true a b d w1 up f e = sym up ∙ ap (λ (x : Came _). x.up) e
more_if false a b d w1 up f e = refl

await_more : {X : Type 0} (t : Table X) (v n m all : ℕ) (w w1 : Bus X) → all ≡ n + m → await t v n w ≡ gave_up w1
    → await t v all w ≡ await t v m w1
unfolding await
await_more {X} t v zero m all w w1 is e =
    let n : all ≡ m = omega (arith, is) in
    ap (λ k. await t v k w) n ∙ ap (λ (c : Came X). await t v m c.bus) e
await_more t v (suc n) m zero w w1 is e = absurd (omega (arith, is))
await_more {X} t v (suc n) m (suc all) w w1 is e =
    let a : Came X = came_up (shifted v (sda_level t w)) (looked t w) in
    let low : scl_level w ≡ false = more_if (scl_level w) a (await t v n (looked t w)) a w1 refl (λ x. refl) e in
    ap (λ b. cond {A = Came X} b a (await t v all (looked t w))) low
    ∙ await_more t v n m all (looked t w) w1 (omega (arith, is))
    (ap (λ b. cond {A = Came X} b a (await t v n (looked t w))) (sym low) ∙ e)

rest_free : {X : Type 0} (t : Table X) (h j a : ℕ) (jd e : Bool) (x : X) → pulls_line t (resting_if (site_of a jd e x) h j jd) ≡ false
rest_free t h j a true e x = refl
rest_free t h j a false e x = refl

module _ {A X : Type 0} (t : Table X) (g : A → Site X) (rest : A → ℕ) (ss : List A) where
  abbrev bus_at : ℕ → Seen → Bus X
  bus_at j c = bus_of false false (map (resting g rest j) ss) c

  level_at : (j : ℕ) (c : Seen) → scl_level (bus_at j c) ≡ not (some_one (held g rest j) ss)
  level_at j c = ap not (some_map (resting g rest j) holds_line (held g rest j) (λ s. holds_r (rest s) j (g s).addr (g s).joined (g s).heard
      (g s).state) ss)

  rises_at : (j : ℕ) (c : Seen) → rises t (bus_at j c) ≡ bus_at j (Level true ∷ c)
  rises_at j c =
      let l : Bool = sda t (map (resting g rest j) ss) true in
      ap (λ bs. bus_of false false bs (Level l ∷ c))
      (map_step (resting g rest j) (resting g rest j) _ (λ s. rise_r t l (rest s) j (g s).addr (g s).joined (g s).heard (g s).state) ss)
      ∙ ap (λ k. bus_at j (Level k ∷ c))
      (free_sda t (resting g rest j) (λ s. rest_free t (rest s) j (g s).addr (g s).joined (g s).heard (g s).state) ss true)

  look_at : (j : ℕ) (c : Seen) → some_one (held g rest j) ss ≡ true
      → looked t (bus_at j c) ≡ bus_at (suc j) (rose (some_one (held g rest (suc j)) ss) true c)
  unfolding looked
  look_at j c busy =
      let w : Bus X = bus_at j c in
      let e : each tick w ≡ bus_at (suc j) c =
      ap (λ bs. bus_of false false bs c)
      (map_step (resting g rest j) (resting g rest (suc j)) _ (λ s. tick_r (rest s) j (g s).addr (g s).joined (g s).heard
      (g s).state) ss) in
      ap (λ u. cond u w (cond (scl_level (each tick w)) (rises t (each tick w)) (each tick w))) (level_at j c ∙ ap not busy)
      ∙ (ap (λ v. cond (scl_level v) (rises t v) v) e
      ∙ by_busy (bus_at (suc j)) c true (some_one (held g rest (suc j)) ss) _ _ _ (level_at (suc j) c) (rises_at (suc j) c) refl)

  -- nobody holds SCL after so many looks
  record Rests (w : Bus X) : Type 0 where
    looks : ℕ
    seen : Seen
    is : w ≡ bus_at looks seen
    quiet : some_one (held g rest looks) ss ≡ false

  rests_by : (n j most : ℕ) (c : Seen) → n + j ≡ most → some_one (held g rest most) ss ≡ false
      → (b : Bool) → some_one (held g rest j) ss ≡ b → Rests (await t 0 n (bus_at j (rose (some_one (held g rest j) ss) true c))).bus
  unfolding await
  rests_by zero j most c sum quick false is = record { looks = j; seen = rose (some_one (held g rest j) ss) true c; is = refl; quiet = is }
  rests_by (suc n) j most c sum quick false is =
      let d : Seen = rose (some_one (held g rest j) ss) true c in
      record {
        looks = j;
        seen = d;
        is = ap (λ (x : Came X). x.bus) (looks_up t 0 n (bus_at j d) (level_at j d ∙ ap not is));
        quiet = is;
      }
  rests_by zero j most c sum quick true is =
      let e : j ≡ most = omega (arith, sum) in
      let p : true ≡ false = sym is ∙ (ap (λ m. some_one (held g rest m) ss) e ∙ quick) in cc
  rests_by (suc n) j most c sum quick true is =
      let w : Bus X = bus_at j c in
      let e : await t 0 (suc n) (bus_at j (rose (some_one (held g rest j) ss) true c))
      ≡ await t 0 n (bus_at (suc j) (rose (some_one (held g rest (suc j)) ss) true c)) =
      ap (λ b. await t 0 (suc n) (bus_at j (rose b true c))) is
      ∙ (ap (λ u. cond {A = Came X} u (came_up (shifted 0 (sda_level t w)) (looked t w)) (await t 0 n (looked t w)))
      (level_at j c ∙ ap not is)
      ∙ ap (await t 0 n) (look_at j c is)) in
      subst (λ (x : Came X). Rests x.bus) (sym e)
      (rests_by n (suc j) most c (omega (arith, sum)) quick (some_one (held g rest (suc j)) ss) refl)

  rest_out : (h j a : ℕ) (jd e : Bool) (x : X) → held_if h j jd ≡ false → resting_if (site_of a jd e x) h j jd ≡ released (site_of a jd e x)
  rest_out h j a true e x done = ap (λ n. stands (site_of a true e x) Out n) (gone (h - j) done)
  rest_out h j a false e x done = refl

  rest_all : (j : ℕ) (us : List A) → some_one (held g rest j) us ≡ false → map (resting g rest j) us ≡ map (λ a. released (g a)) us
  rest_all j [] done = refl
  rest_all j (u ∷ us) done =
      ap (λ b. b ∷ map (resting g rest j) us)
      (rest_out (rest u) j (g u).addr (g u).joined (g u).heard (g u).state (or_left _ _ done))
      ∙ ap (λ bs. released (g u) ∷ bs) (rest_all j us (or_right _ _ done))

  -- then all are out of the message
  pub rests_out : (n j most : ℕ) (c : Seen) → n + j ≡ most → some_one (held g rest most) ss ≡ false
      → OutOn (map g ss) (await t 0 n (bus_at j (rose (some_one (held g rest j) ss) true c))).bus
  rests_out n j most c sum quick =
      let r : Rests (await t 0 n (bus_at j (rose (some_one (held g rest j) ss) true c))).bus =
      rests_by n j most c sum quick (some_one (held g rest j) ss) refl in
      record {
        seen = r.seen;
        is = r.is ∙ ap (λ bs. bus_of false false bs r.seen) (rest_all r.looks ss r.quiet ∙ sym (map_map g released ss));
      }

-- ---- after a start that was too slow
pub ninth_too_late : {X : Type 0} (t : Table X) (mask : Mask X) (byte : ℕ) (ss : List (Site X)) (low : Bool) (c : Seen)
    → AllByRecursion (λ (s : Site X). IsByte (t.hold s.state)) ss → some_one (stays t byte 64) ss ≡ true
    → OutOn (map (started t byte) ss) (cut_rise t mask true (bus_of true low (map (waiting t byte 65 0) ss) c))
ninth_too_late {X} t mask byte ss low c all slow =
    let d : Seen = c in
    let w : Bus X = wait_bus t byte 65 0 ss (seen_by t byte 0 ss c) in
    let late_c : Seen = rose (some_one (stays t byte 65) ss) true c in
    let h : Bool = some_one (held (started t byte) (left_hold t byte) 0) ss in
    let e : await t 0 255 w ≡ await t 0 190 (late_bus t byte ss late_c) =
    await_more t 0 65 190 255 w (late_bus t byte ss late_c) refl (slow_clock t byte 0 64 0 ss c refl slow) in
    let f : late_bus t byte ss late_c ≡ bus_of false false (map (resting (started t byte) (left_hold t byte) 0) ss) (rose h true c) =
    ap (λ bs. bus_of false false bs late_c) (late_map t byte ss)
    ∙ ap (λ b. bus_of false false (map (resting (started t byte) (left_hold t byte) 0) ss) (rose b true c)) (held_same t byte ss) in
    subst (OutOn (map (started t byte) ss))
    (sym (rise_is t byte ss mask low c ∙ ap (λ (x : Came X). x.bus) (e ∙ ap (await t 0 190) f)))
    (rests_out t (started t byte) (left_hold t byte) ss 190 0 190 c refl (late_all 190 (omega arith) t byte ss all))

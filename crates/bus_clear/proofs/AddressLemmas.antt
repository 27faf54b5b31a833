-- A read that is cut off in its address byte, and bus clear after it.
use Rattle.bus_clear.proofs.Cited.{◌≡◌, ℕ, zero, suc, ◌+◌, Bool, true, false, cond, List, [], ◌∷◌, map, refl, ap, sym, ◌∙◌, arith, subst}
use Rattle.bus_clear.proofs.Cited.{not, ◌&&◌, Table, Out, Site, Bit, site_of, shifted, value, rise, begin, hears, other, is_named}
use Rattle.bus_clear.proofs.Cited.{is_reading, stands, some_one, pulls_line, sda, where_joined, stop_site, Seen, Level, Started, Stopped}
use Rattle.bus_clear.proofs.Cited.{Mask, Bus, holds_line, scl_level, sda_level, pulled, bus_of, calling, started, released, rejoin, free}
use Rattle.bus_clear.proofs.Cited.{map_step, map_map, some_map, no_one, risen, call_sda, call_calm, stays_free, stop_run, MOST_PULSES}
use Rattle.bus_clear.proofs.Cited.{cut_level, cut_rise, cut_clock, cut_clocks, clearing, clear_pulls, Free, map-id}
use Rattle.wire_spec.specs.Wires.{finish, called}
use Rattle.wire_spec.proofs.Address.{call_one}
use Rattle.bus_clear.proofs.Clocks.{rise_calm, clock_calm, start_stops, clears_from, ends_free}

-- the lines are freed with so many pulses, and are such a stop's; SDA has this level after the cut
pub record Frees {X : Type 0} (t : Table X) (mask : Mask X) (made : ℕ) (high : Bool) (gs : List (Site X)) (w : Bus X) : Type 0 where
  pub up : scl_level w ≡ true
  pub level : sda_level t w ≡ high
  pub seen : Seen
  pub is : clear_pulls t mask w ≡ clearing (Free made) (free (rejoin mask (map (stop_site t) gs)) seen)

-- nobody pulls SDA: no pulse is made
pub frees_at_once : {X : Type 0} (t : Table X) (mask : Mask X) (bs : List (Bit X)) (gs : List (Site X)) (c : Seen)
    → map (where_joined begin) bs ≡ map (calling 8 0) gs
    → scl_level (bus_of false false bs c) ≡ true → sda_level t (bus_of false false bs c) ≡ true
    → Frees t mask 0 true gs (bus_of false false bs c)
frees_at_once t mask bs gs c starts up high = record {
  up = up;
  level = high;
  seen = Stopped ∷ Started ∷ c;
  is =
      clears_from t mask bs c true up high
      ∙ ends_free t mask MOST_PULSES 0 (bus_of false false bs c) _ true refl (start_stops t mask bs gs c starts up high);
}

-- ---- the levels of the controller from one rise on
abbrev pub levels_from : ℕ → ℕ → ℕ → List Bool
levels_from byte r zero = []
levels_from byte r (suc n) = cut_level byte r ∷ levels_from byte (suc r) n

-- so much of an address has come in
pub record Partway {X : Type 0} (ss : List (Site X)) (left v : ℕ) (w : Bus X) : Type 0 where
  pub low : Bool
  pub seen : Seen
  pub is : w ≡ bus_of true low (map (calling left v) ss) seen

module _ {X : Type 0} (t : Table X) (mask : Mask X) (ss : List (Site X)) where
  calls_on : (h low : Bool) (left v : ℕ) (c : Seen)
      → cut_clock t mask h (bus_of true low (map (calling (suc (suc left)) v) ss) c)
      ≡ bus_of true (not h) (map (calling (suc left) (shifted v h)) ss) (Level h ∷ c)
  calls_on h low left v c =
      let l : Bool = sda t (map (calling (suc (suc left)) v) ss) h in
      clock_calm t mask h low (map (calling (suc (suc left)) v) ss) c (call_calm t (suc left) v ss h)
      ∙ (ap (λ bs. bus_of true (not h) bs (Level l ∷ c)) (map_step (calling (suc (suc left)) v) (calling (suc left) (shifted v l)) _
      (λ s. call_one t left v l s.addr s.joined s.heard s.state) ss)
      ∙ ap (λ b. bus_of true (not h) (map (calling (suc left) (shifted v b)) ss) (Level b ∷ c)) (call_sda t (suc (suc left)) v ss h))

  pub calls_by : (byte n left all r v : ℕ) (low : Bool) (c : Seen) → all ≡ n + left
      → Partway ss (suc left) (value v (levels_from byte r n)) (cut_clocks t mask byte r n (bus_of true low
      (map (calling (suc all) v) ss) c))
  calls_by byte zero left all r v low c is =
      let e : all ≡ left = omega (arith, is) in record {
        low = low;
        seen = c;
        is =
            ap (λ m. bus_of true low (map (calling (suc m) v) ss) c) e;
      }
  calls_by byte (suc n) left zero r v low c is = absurd (omega (arith, is))
  calls_by byte (suc n) left (suc all) r v low c is =
      let h : Bool = cut_level byte r in
      let p : Partway ss (suc left) (value (shifted v h) (levels_from byte (suc r) n))
      (cut_clocks t mask byte (suc r) n (bus_of true (not h) (map (calling (suc all) (shifted v h)) ss) (Level h ∷ c))) =
      calls_by byte n left all (suc r) (shifted v h) (not h) (Level h ∷ c) (omega (arith, is)) in
      record {
        low = p.low;
        seen = p.seen;
        is = ap (cut_clocks t mask byte (suc r) n) (calls_on h low all v c) ∙ p.is;
      }

  -- ---- the last rise
  call_begin : (left v : ℕ) (l : Bool) (a : ℕ) (j e : Bool) (x : X)
      → where_joined begin (where_joined (λ b. rise t b l) (calling (suc (suc left)) v (site_of a j e x))) ≡ calling 8 0 (site_of a j e x)
  call_begin left v l a true e x = refl
  call_begin left v l a false e x = refl

  call_finish : (left v : ℕ) (l : Bool) (a : ℕ) (j e : Bool) (x : X)
      → where_joined (finish t) (where_joined (λ b. rise t b l) (calling (suc (suc left)) v (site_of a j e x))) ≡ released
      (stop_site t (site_of a j e x))
  call_finish left v l a true e x = refl
  call_finish left v l a false e x = refl

  call_hangs : (left v : ℕ) (l : Bool) (a : ℕ) (j e : Bool) (x : X)
      → pulls_line t (where_joined (λ b. rise t b l) (calling (suc (suc left)) v (site_of a j e x))) ≡ false
  call_hangs left v l a true e x = refl
  call_hangs left v l a false e x = refl

  named_begins : (byte a : ℕ) (e h : Bool) (x : X)
      → where_joined begin (cond {A = Bit X} h (called t (site_of a true e x) (is_reading byte))
      (stands (other t (site_of a true e x)) Out 0))
      ≡ calling 8 0 (cond h (hears t (site_of a true e x) (is_reading byte)) (other t (site_of a true e x)))
  named_begins byte a e true x = refl
  named_begins byte a e false x = refl

  eighth_begin : (v : ℕ) (l : Bool) (a : ℕ) (j e : Bool) (x : X)
      → where_joined begin (where_joined (λ b. rise t b l) (calling 1 v (site_of a j e x))) ≡ calling 8 0
      (started t (shifted v l) (site_of a j e x))
  eighth_begin v l a true e x = named_begins (shifted v l) a e (is_named (shifted v l) (site_of a true e x)) x
  eighth_begin v l a false e x = refl

  -- what the last rise leaves, where SDA is let go in it
  module _ (left v : ℕ) (c : Seen) where
    abbrev ts : List (Bit X)
    ts = map (calling (suc left) v) ss

    rises_to : (h low : Bool) → cut_rise t mask h (bus_of true low ts c) ≡ bus_of false (not h) (risen t ts h) (Level h ∷ c)
    rises_to h low =
        rise_calm t mask h low ts c (call_calm t left v ss h)
        ∙ ap (λ l. bus_of false (not h) (risen t ts h) (Level l ∷ c)) (call_sda t (suc left) v ss h)

    up : (h : Bool) → scl_level (bus_of false (not h) (risen t ts h) (Level h ∷ c)) ≡ true
    up h = ap not (call_calm t left v ss h).high

    high_level : sda_level t (bus_of false false (risen t ts true) (Level true ∷ c)) ≡ true
    high_level = (call_calm t left v ss true).stays ∙ call_sda t (suc left) v ss true

    high_frees : (gs : List (Site X)) → map (where_joined begin) (risen t ts true) ≡ map (calling 8 0) gs → (low : Bool)
        → Frees t mask 0 true gs (pulled t mask (cut_rise t mask true (bus_of true low ts c)) false false)
    high_frees gs starts low =
        let w : Bus X = bus_of false false (risen t ts true) (Level true ∷ c) in
        let e : pulled t mask (cut_rise t mask true (bus_of true low ts c)) false false ≡ w =
        ap (λ u. pulled t mask u false false) (rises_to true low) ∙ stays_free t mask (risen t ts true) (Level true ∷ c) in
        subst (Frees t mask 0 true gs) (sym e) (frees_at_once t mask (risen t ts true) gs (Level true ∷ c) starts (up true) high_level)

  out_begin : (a : ℕ) (j e : Bool) (x : X) → where_joined begin (released (site_of a j e x)) ≡ calling 8 0 (site_of a j e x)
  out_begin a true e x = refl
  out_begin a false e x = refl

  out_holds : (a : ℕ) (j e : Bool) (x : X) → holds_line (released (site_of a j e x)) ≡ false
  out_holds a true e x = refl
  out_holds a false e x = refl

  out_pulls : (a : ℕ) (j e : Bool) (x : X) → pulls_line t (released (site_of a j e x)) ≡ false
  out_pulls a true e x = refl
  out_pulls a false e x = refl

  -- lines on which all are out of the message
  pub out_frees : (gs : List (Site X)) (c : Seen) → Frees t mask 0 true gs (bus_of false false (map released gs) c)
  out_frees gs c =
      frees_at_once t mask (map released gs) gs c (map_step released (calling 8 0) _ (λ s. out_begin s.addr s.joined s.heard s.state) gs)
      (ap not (some_map released holds_line (λ x. false) (λ s. out_holds s.addr s.joined s.heard s.state) gs ∙ no_one gs))
      (ap (λ b. true && not b) (some_map released (pulls_line t) (λ x. false) (λ s. out_pulls s.addr s.joined s.heard s.state) gs
      ∙ no_one gs))

  -- the sites after a cut in the first seven bits: where the controller pulled SDA, letting it go is a stop
  abbrev pub behind_bit : Bool → List (Site X)
  behind_bit true = ss
  behind_bit false = rejoin mask (map (stop_site t) ss)

  low_falls : (left v : ℕ) (c : Seen) (low : Bool)
      → pulled t mask (cut_rise t mask false (bus_of true low (map (calling (suc (suc left)) v) ss) c)) false false
      ≡ bus_of false false (map released (behind_bit false)) (Stopped ∷ Level false ∷ c)
  low_falls left v c low =
      let us : List (Bit X) = map (calling (suc (suc left)) v) ss in
      let l : Bool = sda t us false in
      let f : Site X → Bit X = λ (s : Site X). where_joined (λ b. rise t b l) (calling (suc (suc left)) v s) in
      let e : risen t us false ≡ map f ss = map_map (calling (suc (suc left)) v) (where_joined (λ b. rise t b l)) ss in
      let quiet : some_one holds_line (map f ss) ≡ false = ap (some_one holds_line) (sym e) ∙ (call_calm t (suc left) v ss false).high in
      ap (λ u. pulled t mask u false false) (rises_to (suc left) v c false low ∙ ap (λ bs. bus_of false true bs (Level false ∷ c)) e)
      ∙ (stop_run t mask f (λ (s : Site X). s) ss (Level false ∷ c) (λ s. call_finish left v l s.addr s.joined s.heard s.state) quiet
      (λ s. call_hangs left v l s.addr s.joined s.heard s.state)
      ∙ ap (λ xs. bus_of false false (map released (rejoin mask (map (stop_site t) xs))) (Stopped ∷ Level false ∷ c)) (map-id ss))

  bit_frees : (left v : ℕ) (c : Seen) (h low : Bool)
      → Frees t mask 0 true (behind_bit h) (pulled t mask (cut_rise t mask h (bus_of true low (map (calling (suc (suc left)) v) ss) c))
      false false)
  bit_frees left v c true low =
      let l : Bool = sda t (map (calling (suc (suc left)) v) ss) true in
      high_frees (suc left) v c ss (ap (map (where_joined begin)) (map_map (calling (suc (suc left)) v) (where_joined (λ b. rise t b l)) ss)
      ∙ map_step (λ s. where_joined (λ b. rise t b l) (calling (suc (suc left)) v s)) (calling 8 0) _
      (λ s. call_begin left v l s.addr s.joined s.heard s.state) ss) low
  bit_frees left v c false low =
      subst (Frees t mask 0 true (behind_bit false)) (sym (low_falls left v c low))
      (out_frees (behind_bit false) (Stopped ∷ Level false ∷ c))

  -- after a cut in the first seven bits, and after the eighth, where SDA is let go
  pub seven_frees : (left v : ℕ) (h : Bool) (w : Bus X) → Partway ss (suc (suc left)) v w
      → Frees t mask 0 true (behind_bit h) (pulled t mask (cut_rise t mask h w) false false)
  seven_frees left v h w p =
      subst (λ (u : Bus X). Frees t mask 0 true (behind_bit h) (pulled t mask (cut_rise t mask h u) false false)) (sym p.is)
      (bit_frees left v p.seen h p.low)

  pub eight_frees : (v : ℕ) (w : Bus X) → Partway ss 1 v w
      → Frees t mask 0 true (map (started t (shifted v true)) ss) (pulled t mask (cut_rise t mask true w) false false)
  eight_frees v w p =
      let us : List (Bit X) = map (calling 1 v) ss in
      let l : sda t us true ≡ true = call_sda t 1 v ss true in
      let starts : map (where_joined begin) (risen t us true) ≡ map (calling 8 0) (map (started t (shifted v true)) ss) =
      ap (λ b. map (where_joined begin) (map (where_joined (λ u. rise t u b)) us)) l
      ∙ (ap (map (where_joined begin)) (map_map (calling 1 v) (where_joined (λ b. rise t b true)) ss)
      ∙ (map_step (λ s. where_joined (λ b. rise t b true) (calling 1 v s)) (λ s. calling 8 0 (started t (shifted v true) s)) _
      (λ s. eighth_begin v true s.addr s.joined s.heard s.state) ss
      ∙ sym (map_map (started t (shifted v true)) (calling 8 0) ss))) in
      subst (λ (u : Bus X). Frees t mask 0 true (map (started t (shifted v true)) ss) (pulled t mask (cut_rise t mask true u) false false))
      (sym p.is)
      (high_frees 0 v p.seen (map (started t (shifted v true)) ss) starts p.low)

-- A read that is cut off in its data, by the mode of its targets, and bus clear after it.
use Rattle.bus_clear.proofs.Cited.{◌≡◌, ℕ, zero, suc, ◌+◌, ◌≤◌, Bool, true, false, cond, List, ◌∷◌, map, refl, ap, sym, ◌∙◌, arith, not}
use Rattle.bus_clear.proofs.Cited.{Table, Give, Site, site_of, shifted, bit, rise, begin, sda, where_joined, at, sent_by, and_all, get_site}
use Rattle.bus_clear.proofs.Cited.{stop_site, Seen, Level, Started, Stopped, Mask, Bus, scl_level, sda_level, pulled, bus_of, came_up}
use Rattle.bus_clear.proofs.Cited.{calling, rejoin, free, map_step, map_map, free_sda, risen, cut_rise, cut_clock, start_stop, Clearing}
use Rattle.bus_clear.proofs.Cited.{clearing, clear_from, Free}
use Rattle.wire_spec.proofs.Roots.{give_step, give_sda, give_quiet}
use Rattle.wire_spec.proofs.Rests.{give_calm}
use Rattle.bus_clear.specs.Pulls.{pulse}
use Rattle.bus_clear.proofs.Clocks.{rise_calm, risen_falls, clock_calm, pulse_calm, start_stops, pulses_on, ends_free}

give_begin : {X : Type 0} (t : Table X) (n : ℕ) (l : Bool) (a : ℕ) (j e : Bool) (x : X)
    → where_joined begin (where_joined (λ b. rise t b l) (at (Give (suc n)) (site_of a j e x))) ≡ calling 8 0 (site_of a j e x)
give_begin t n l a true true x = refl
give_begin t n l a true false x = refl
give_begin t n l a false e x = refl

last_begin : {X : Type 0} (t : Table X) (a : ℕ) (j e : Bool) (x : X)
    → where_joined begin (where_joined (λ b. rise t b true) (at (Give 0) (site_of a j e x))) ≡ calling 8 0
    (get_site t false (site_of a j e x))
last_begin t a true true x = refl
last_begin t a true false x = refl
last_begin t a false e x = refl

plus_none : (n : ℕ) → n ≡ n + 0
plus_none n = omega arith

plus_one : (n m : ℕ) → n + 1 + m ≡ n + suc m
plus_one n m = omega arith

module _ {X : Type 0} (t : Table X) (mask : Mask X) (ss : List (Site X)) where
  -- the byte that the targets send, and so many of its bits are left
  abbrev pub sent : ℕ
  sent = and_all (map (sent_by t) ss)

  abbrev pub bit_left : ℕ → Bool
  bit_left zero = true
  bit_left (suc n) = bit sent n

  -- so many of the bits that are left are low before one that is high
  abbrev pub lows : ℕ → ℕ
  lows zero = 0
  lows (suc n) = cond (bit sent n) 0 (suc (lows n))

  -- the sites where SDA goes high: after the last bit the controller's answer has come
  abbrev pub where_high : ℕ → List (Site X)
  where_high zero = map (get_site t false) ss
  where_high (suc n) = cond (bit sent n) ss (where_high n)

  -- what is seen once the lines are free: a level for each pulse, then a start and a stop
  abbrev pub high_seen : ℕ → Seen → Seen
  high_seen zero c = Stopped ∷ Started ∷ c
  high_seen (suc n) c = cond (bit sent n) (Stopped ∷ Started ∷ c) (high_seen n (Level (bit_left n) ∷ c))

  -- SCL is low, and so many bits are left; and it has risen
  abbrev pub giving : ℕ → Seen → Bus X
  giving k c = bus_of true false (map (at (Give k)) ss) c

  abbrev pub given : ℕ → Seen → Bus X
  given k c = bus_of false false (risen t (map (at (Give k)) ss) true) c

  -- the level of SDA then
  level_of : (k : ℕ) → k ≤ 8 → sda t (map (at (Give k)) ss) true ≡ bit_left k
  level_of zero le = free_sda t (at (Give 0)) (λ s. give_quiet t s.addr s.joined s.heard s.state) ss true
  level_of (suc n) le = give_sda t n (omega (arith, le)) ss

  pub given_level : (k : ℕ) (c : Seen) → k ≤ 8 → sda_level t (given k c) ≡ bit_left k
  given_level k c le = (give_calm t k ss true).stays ∙ level_of k le

  pub given_up : (k : ℕ) (c : Seen) → scl_level (given k c) ≡ true
  given_up k c = ap not (give_calm t k ss true).high

  pub rise_on : (k : ℕ) (low : Bool) (c : Seen) → k ≤ 8
      → cut_rise t mask true (bus_of true low (map (at (Give k)) ss) c) ≡ given k (Level (bit_left k) ∷ c)
  rise_on k low c le =
      rise_calm t mask true low (map (at (Give k)) ss) c (give_calm t k ss true) ∙ ap (λ l. given k (Level l ∷ c)) (level_of k le)

  pub clock_on : (k : ℕ) (low : Bool) (c : Seen) → suc k ≤ 8
      → cut_clock t mask true (bus_of true low (map (at (Give (suc k))) ss) c) ≡ giving k (Level (bit_left (suc k)) ∷ c)
  clock_on k low c le =
      let l : Bool = sda t (map (at (Give (suc k))) ss) true in
      clock_calm t mask true low (map (at (Give (suc k))) ss) c (give_calm t (suc k) ss true)
      ∙ (ap (λ bs. bus_of true false bs (Level l ∷ c)) (give_step t k ss) ∙ ap (λ b. giving k (Level b ∷ c)) (level_of (suc k) le))

  falls_to : (k : ℕ) (c : Seen) → pulled t mask (given (suc k) c) true false ≡ giving k c
  falls_to k c =
      risen_falls t mask true (map (at (Give (suc k))) ss) c (give_calm t (suc k) ss true) ∙ ap (λ bs. bus_of true false bs c)
      (give_step t k ss)

  -- a pulse, from lines whose fall leaves so many bits
  pub pulse_to : (k : ℕ) (w : Bus X) (c : Seen) → k ≤ 8 → pulled t mask w true false ≡ giving k c
      → pulse t mask w ≡ came_up (shifted 0 (bit_left k)) (given k (Level (bit_left k) ∷ c))
  pulse_to k w c le fell =
      pulse_calm t mask w (map (at (Give k)) ss) c fell (give_calm t k ss true)
      ∙ ap (λ l. came_up (shifted 0 l) (given k (Level l ∷ c))) (level_of k le)

  begins_high : (k : ℕ) → k ≤ 8 → bit_left k ≡ true → map (where_joined begin) (risen t (map (at (Give k)) ss) true) ≡ map (calling 8 0)
      (where_high k)
  begins_high zero le high =
      let l : sda t (map (at (Give 0)) ss) true ≡ true = level_of 0 le in
      ap (λ h. map (where_joined begin) (map (where_joined (λ b. rise t b h)) (map (at (Give 0)) ss))) l
      ∙ (ap (map (where_joined begin)) (map_step (at (Give 0)) (λ s. where_joined (λ b. rise t b true) (at (Give 0) s)) _ (λ s. refl) ss)
      ∙ (map_step (λ s. where_joined (λ b. rise t b true) (at (Give 0) s)) (λ s. calling 8 0 (get_site t false s)) _
      (λ s. last_begin t s.addr s.joined s.heard s.state) ss
      ∙ sym (map_map (get_site t false) (calling 8 0) ss)))
  begins_high (suc n) le high =
      let l : Bool = sda t (map (at (Give (suc n))) ss) true in
      ap (map (where_joined begin)) (map_step (at (Give (suc n))) (λ s. where_joined (λ b. rise t b l) (at (Give (suc n)) s)) _
      (λ s. refl) ss)
      ∙ (map_step (λ s. where_joined (λ b. rise t b l) (at (Give (suc n)) s)) (calling 8 0) _
      (λ s. give_begin t n l s.addr s.joined s.heard s.state) ss
      ∙ ap (λ h. map (calling 8 0) (cond h ss (where_high n))) (sym high))

  stops_high : (k : ℕ) (c : Seen) → k ≤ 8 → bit_left k ≡ true
      → start_stop t mask (given k c) ≡ free (rejoin mask (map (stop_site t) (where_high k))) (Stopped ∷ Started ∷ c)
  stops_high k c le high =
      start_stops t mask (risen t (map (at (Give k)) ss) true) (where_high k) c (begins_high k le high) (given_up k c)
      (given_level k c le ∙ high)

  -- the lines are freed with so many pulses
  abbrev pub ends : ℕ → ℕ → Seen → Clearing X
  ends made k c = clearing (Free (made + lows k)) (free (rejoin mask (map (stop_site t) (where_high k))) (high_seen k c))

  -- SCL is high: pulses until SDA is high
  pub clears_by : (k left made : ℕ) (c : Seen) → k ≤ left → k ≤ 8 → (b : Bool) → bit_left k ≡ b
      → clear_from t mask b left made (given k c) ≡ ends made k c
  clears_by zero left made c le few false is = cc
  clears_by zero left made c le few true is =
      ends_free t mask left made (given 0 c) _ true refl (stops_high 0 c few refl)
      ∙ ap (λ n. clearing (Free n) (free (rejoin mask (map (stop_site t) (where_high 0))) (high_seen 0 c))) (plus_none made)
  clears_by (suc n) left made c le few true is =
      ends_free t mask left made (given (suc n) c) _ true refl (stops_high (suc n) c few is)
      ∙ (ap (λ m. clearing (Free m) (free (rejoin mask (map (stop_site t) (where_high (suc n)))) (Stopped ∷ Started ∷ c))) (plus_none made)
      ∙ ap (λ h. clearing (Free (made + cond h 0 (suc (lows n)))) (free (rejoin mask (map (stop_site t) (where_high (suc n))))
      (cond h (Stopped ∷ Started ∷ c) (high_seen n (Level (bit_left n) ∷ c))))) (sym is))
  clears_by (suc n) zero made c le few false is = absurd (omega (arith, le))
  clears_by (suc n) (suc left) made c le few false is =
      pulses_on t mask left made (given (suc n) c) (given n (Level (bit_left n) ∷ c)) (bit_left n)
      (pulse_to n (given (suc n) c) c (omega (arith, few)) (falls_to n c))
      ∙ (clears_by n left (made + 1) (Level (bit_left n) ∷ c) (omega (arith, le)) (omega (arith, few)) (bit_left n) refl
      ∙ (ap (λ m. clearing (Free m) (free (rejoin mask (map (stop_site t) (where_high n))) (high_seen n (Level (bit_left n) ∷ c))))
      (plus_one made (lows n))
      ∙ ap (λ h. clearing (Free (made + cond h 0 (suc (lows n)))) (free (rejoin mask (map (stop_site t) (cond h ss (where_high n))))
      (cond h (Stopped ∷ Started ∷ c) (high_seen n (Level (bit_left n) ∷ c))))) (sym is)))

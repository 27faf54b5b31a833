-- A read that is cut off at each of its rises, and bus clear after it, on targets of any fair table.
use Rattle.bus_clear.proofs.Cited.{◌≡◌, ℕ, zero, suc, ◌+◌, ◌-◌, ◌/◌, ◌%◌, ◌<◌, ◌≤◌, Bool, true, false, cond, List, ◌∷◌, map, refl, ap, sym}
use Rattle.bus_clear.proofs.Cited.{◌∙◌, arith, subst, not, ◌&&◌, ◌==◌, nat_lt, AllByRecursion, nat_tests, IsByte, Table, IsFairTable}
use Rattle.bus_clear.proofs.Cited.{is_ack, Give, Site, Bit, site_of, shifted, value, bit, rise, fall, is_reading, some_one, hearing}
use Rattle.bus_clear.proofs.Cited.{pulls_line, sda, where_joined, at, sent_by, and_all, get_site, stop_site, Seen, Level, Started, Mask}
use Rattle.bus_clear.proofs.Cited.{Bus, holds_line, scl_level, sda_level, pulled, bus_of, calling, started, stays, answers_so, released}
use Rattle.bus_clear.proofs.Cited.{rejoin, free, start_pulls, map_step, some_map, no_one, free_sda, IsCalm, risen, goes_down, call_sda}
use Rattle.bus_clear.proofs.Cited.{waiting, wait_bus, call_calm, stays_free, released_out, MOST_PULSES, level_by, low_rises, cut_level}
use Rattle.bus_clear.proofs.Cited.{cut_rise, cut_clocks, clearing, Free}
use Rattle.std.proofs.Common.{◌^◌}
use Rattle.wire_spec.proofs.Rests.{calm_by}
use Rattle.wire_spec.proofs.Address.{call_last}
use Rattle.wire_spec.proofs.StartLemmas.{all_out}
use Rattle.wire_spec.proofs.Repeats.{free_start}
use Rattle.wire_spec.proofs.ByteLaws.{bits_are}
use Rattle.bus_clear.specs.Pulls.{cut_clock, cut_off, cut_pulls}
use Rattle.bus_clear.proofs.Clocks.{rise_calm, clock_calm, clears_from, pulses_on}
use Rattle.bus_clear.proofs.DataLemmas.{bit_left, lows, where_high, high_seen, giving, given, given_level, given_up, rise_on, clock_on}
use Rattle.bus_clear.proofs.DataLemmas.{pulse_to, clears_by}
use Rattle.bus_clear.proofs.AddressLemmas.{Frees, Partway, levels_from, calls_by, seven_frees, eight_frees, out_frees, behind_bit}
use Rattle.bus_clear.proofs.AckLemmas.{InTime, OutOn, ninth_in_time, ninth_too_late, still, in_time_up, in_time_level, in_time_frees}
use Rattle.bus_clear.proofs.AckLemmas.{in_time_falls}
use Rattle.wire_spec.proofs.LiveLemmas.{out_rises, out_holds, out_falls, out_pulls}

-- after the eighth rise the controller lets SDA go
free_level : (byte r : ℕ) → 8 < r → cut_level byte r ≡ true
free_level byte r lt = let e : nat_lt r 9 ≡ false = grind (arith, nat_tests) in ap (λ b. cond b (bit byte (8 - r)) true) e

out_clock : {X : Type 0} (t : Table X) (l : Bool) (a : ℕ) (j e : Bool) (x : X)
    → where_joined (λ b. fall (rise t b l)) (released (site_of a j e x)) ≡ released (site_of a j e x)
out_clock t l a true e x = refl
out_clock t l a false e x = refl

module _ {X : Type 0} (t : Table X) (mask : Mask X) (gs : List (Site X)) where
  out_calm : IsCalm t (map released gs) true
  out_calm =
      calm_by t released gs true (λ s. out_holds s.addr s.joined s.heard s.state)
      (λ s l. ap holds_line (out_rises t l s.addr s.joined s.heard s.state) ∙ out_holds s.addr s.joined s.heard s.state)
      (λ s l. ap (pulls_line t) (out_rises t l s.addr s.joined s.heard s.state))

  -- nobody pulls SDA
  out_sda : sda t (map released gs) true ≡ true
  out_sda = free_sda t released (λ s. out_pulls t s.addr s.joined s.heard s.state) gs true

  out_on : (low : Bool) (c : Seen)
      → cut_clock t mask true (bus_of true low (map released gs) c) ≡ bus_of true false (map released gs) (Level true ∷ c)
  out_on low c =
      let l : Bool = sda t (map released gs) true in
      clock_calm t mask true low (map released gs) c out_calm
      ∙ (ap (λ bs. bus_of true false bs (Level l ∷ c))
      (map_step released released _ (λ s. out_clock t l s.addr s.joined s.heard s.state) gs)
      ∙ ap (λ k. bus_of true false (map released gs) (Level k ∷ c)) out_sda)

  out_rise : (low : Bool) (c : Seen)
      → cut_rise t mask true (bus_of true low (map released gs) c) ≡ bus_of false false (map released gs) (Level true ∷ c)
  out_rise low c =
      let l : Bool = sda t (map released gs) true in
      rise_calm t mask true low (map released gs) c out_calm
      ∙ (ap (λ bs. bus_of false false bs (Level l ∷ c))
      (map_step released released _ (λ s. out_rises t l s.addr s.joined s.heard s.state) gs)
      ∙ ap (λ k. bus_of false false (map released gs) (Level k ∷ c)) out_sda)

  out_fall : (c : Seen) → pulled t mask (bus_of false false (map released gs) c) true false ≡ bus_of true false (map released gs) c
  out_fall c =
      goes_down t mask (bus_of false false (map released gs) c) false
      (ap not (some_map released holds_line (λ x. false) (λ s. out_holds s.addr s.joined s.heard s.state) gs ∙ no_one gs))
      ∙ ap (λ bs. bus_of true false bs c) (map_step released released _ (λ s. out_falls s.addr s.joined s.heard s.state) gs)

  -- clocks go on where nobody has heard
  outs_on : (byte r n : ℕ) (c : Seen) → 8 < r → (d : Seen) × (cut_clocks t mask byte r n
      (bus_of true false (map released gs) c) ≡ bus_of true false (map released gs) d)
  outs_on byte r zero c lt = (c, refl)
  outs_on byte r (suc n) c lt =
      let p = outs_on byte (suc r) n (Level true ∷ c) (omega (arith, lt)) in (
        p.0,
        ap (λ h. cut_clocks t mask byte (suc r) n (cut_clock t mask h (bus_of true false (map released gs) c))) (free_level byte r lt)
            ∙ (ap (cut_clocks t mask byte (suc r) n) (out_on false c) ∙ p.1),
      )

  pub outs_free : (byte r n last : ℕ) (c : Seen) → 8 < r → 8 < last
      → Frees t mask 0 true gs (cut_off t mask byte last (cut_clocks t mask byte r n (bus_of true false (map released gs) c)))
  outs_free byte r n last c lt more =
      let p = outs_on byte r n c lt in
      let e : cut_off t mask byte last (cut_clocks t mask byte r n (bus_of true false (map released gs) c)) ≡ bus_of false false
      (map released gs) (Level true ∷ p.0) =
      ap (cut_off t mask byte last) p.1
      ∙ (ap (λ h. pulled t mask (cut_rise t mask h (bus_of true false (map released gs) p.0)) false false) (free_level byte last more)
      ∙ (ap (λ u. pulled t mask u false false) (out_rise false p.0) ∙ stays_free t mask (map released gs) (Level true ∷ p.0))) in
      subst (Frees t mask 0 true gs) (sym e) (out_frees t mask gs gs (Level true ∷ p.0))

by_one : (n : ℕ) → n / 2 ^ 0 ≡ n
by_one n = omega arith

one_more : (n : ℕ) → 1 + n ≡ suc n
one_more n = omega arith

last_bit : (byte : ℕ) → is_reading byte ≡ true → cut_level byte 8 ≡ true
last_bit byte is = ap (λ n. (n % 2) == 1) (by_one byte) ∙ is

none_more : (n : ℕ) → 0 + n ≡ n
none_more n = omega arith

-- ---- the data of a byte that is heard
module _ {X : Type 0} (t : Table X) (mask : Mask X) (gs : List (Site X)) where
  data_on : (byte r n k all : ℕ) (c : Seen) → all ≡ n + k → all ≤ 8 → 8 < r
      → (d : Seen) × (cut_clocks t mask byte r n (giving t mask gs all c) ≡ giving t mask gs k d)
  data_on byte r zero k all c is few lt = let e : all ≡ k = omega (arith, is) in (c, ap (λ m. giving t mask gs m c) e)
  data_on byte r (suc n) k zero c is few lt = absurd (omega (arith, is))
  data_on byte r (suc n) k (suc all) c is few lt =
      let d : Seen = Level (bit_left t mask gs (suc all)) ∷ c in
      let p = data_on byte (suc r) n k all d (omega (arith, is)) (omega (arith, few)) (omega (arith, lt)) in (
        p.0,
        ap (λ h. cut_clocks t mask byte (suc r) n (cut_clock t mask h (giving t mask gs (suc all) c))) (free_level byte r lt)
            ∙ (ap (cut_clocks t mask byte (suc r) n) (clock_on t mask gs all false c few) ∙ p.1),
      )

  pub data_frees : (byte r n k last : ℕ) (c : Seen) → 8 ≡ n + k → k ≤ 8 → 8 < r → 8 < last
      → Frees t mask (lows t mask gs k) (bit_left t mask gs k) (where_high t mask gs k)
      (cut_off t mask byte last (cut_clocks t mask byte r n (giving t mask gs 8 c)))
  data_frees byte r n k last c is few lt more =
      let p = data_on byte r n k 8 c is (omega arith) lt in
      let d : Seen = Level (bit_left t mask gs k) ∷ p.0 in
      let w : Bus X = given t mask gs k d in
      let e : cut_off t mask byte last (cut_clocks t mask byte r n (giving t mask gs 8 c)) ≡ w =
      ap (cut_off t mask byte last) p.1
      ∙ (ap (λ h. pulled t mask (cut_rise t mask h (giving t mask gs k p.0)) false false) (free_level byte last more)
      ∙ (ap (λ u. pulled t mask u false false) (rise_on t mask gs k false p.0 few)
      ∙ stays_free t mask (risen t (map (at (Give k)) gs) true) d)) in
      subst (Frees t mask (lows t mask gs k) (bit_left t mask gs k) (where_high t mask gs k)) (sym e)
      (record {
        up = given_up t mask gs k d;
        level = given_level t mask gs k d few;
        seen = high_seen t mask gs k d;
        is =
            clears_from t mask (risen t (map (at (Give k)) gs) true) d (bit_left t mask gs k)
            (given_up t mask gs k d)
            (given_level t mask gs k d few)
            ∙ (clears_by t mask gs k MOST_PULSES 0 d (omega (arith, few)) few (bit_left t mask gs k) refl
            ∙ ap (λ m. clearing (Free m) (free (rejoin mask (map (stop_site t) (where_high t mask gs k)))
            (high_seen t mask gs k d)))
            (none_more (lows t mask gs k)));
      })

-- ---- where SDA goes high
same_sum : (m : ℕ) → (m == 8) ≡ (9 + suc m == 18)
same_sum m = grind (arith, nat_tests)

other_sum : (m k last : ℕ) → last + k ≡ 18 → (m == k) ≡ (last + m == 18)
other_sum m k last sum = grind (arith, nat_tests)

zero_not : (n : ℕ) → false ≡ (0 == suc n)
zero_not n = grind (arith, nat_tests)

suc_same : (m n : ℕ) → (m == n) ≡ (suc m == suc n)
suc_same m n = grind (arith, nat_tests)

by_bit : {A : Type 0} (x y z : A) (m n : ℕ) (h : Bool) → z ≡ cond (m == n) y x → cond h x z ≡ cond (cond h 0 (suc m) == suc n) y x
by_bit x y z m n true is = ap (λ b. cond b y x) (zero_not n)
by_bit x y z m n false is = is ∙ ap (λ b. cond b y x) (suc_same m n)

-- the controller's answer has come exactly where all the bits that are left are low
high_if : {X : Type 0} (t : Table X) (mask : Mask X) (gs : List (Site X)) (k : ℕ)
    → where_high t mask gs k ≡ cond (lows t mask gs k == k) (map (get_site t false) gs) gs
high_if t mask gs zero = refl
high_if t mask gs (suc n) =
    by_bit gs (map (get_site t false) gs) (where_high t mask gs n) (lows t mask gs n) n (bit (and_all (map (sent_by t) gs)) n)
    (high_if t mask gs n)

low_by : (h : Bool) (m n : ℕ) → m ≤ n → cond h 0 (suc m) ≤ suc n
low_by true m n le = omega arith
low_by false m n le = omega (arith, le)

pub low_most : (level : ℕ → Bool) (n r : ℕ) → low_rises level n r ≤ n
low_most level zero r = omega arith
low_most level (suc n) r = low_by (level r) (low_rises level n (suc r)) n (low_most level n (suc r))

-- ---- all rises of a read with this address byte
module _ {X : Type 0} (t : Table X) (fair : IsFairTable t) (mask : Mask X) (byte : ℕ) (lt : byte < 256) (reads : is_reading byte ≡ true)
    (ss : List (Site X)) (c : Seen) where
  -- the sites after the start
  abbrev pub begun : List (Site X)
  begun = map (started t byte) ss

  abbrev start : Bus X
  start = bus_of true true (map (calling 8 0) ss) (Started ∷ c)

  starts : start_pulls t mask (free ss c) ≡ start
  starts = free_start t mask ss c

  -- so much of the address comes in
  comes : (n left : ℕ) → 7 ≡ n + left → Partway ss (suc left) (value 0 (levels_from byte 1 n))
      (cut_clocks t mask byte 1 n (start_pulls t mask (free ss c)))
  comes n left is =
      subst (λ (u : Bus X). Partway ss (suc left) (value 0 (levels_from byte 1 n)) (cut_clocks t mask byte 1 n u)) (sym starts)
      (calls_by t mask ss byte n left 7 1 0 true (Started ∷ c) is)

  -- after the eighth clock all wait for the ninth
  record Waits (w : Bus X) : Type 0 where
    low : Bool
    seen : Seen
    is : w ≡ bus_of true low (map (waiting t byte 65 0) ss) seen

  whole : value 0 (levels_from byte 1 8) ≡ byte
  whole = bits_are byte lt

  eighth : Waits (cut_clocks t mask byte 1 8 (start_pulls t mask (free ss c)))
  eighth =
      let v : ℕ = value 0 (levels_from byte 1 7) in
      let h : Bool = cut_level byte 8 in
      let p : Partway ss 1 v (cut_clocks t mask byte 1 7 (start_pulls t mask (free ss c))) = comes 7 0 refl in
      let us : List (Bit X) = map (calling 1 v) ss in
      let l : Bool = sda t us h in
      record {
        low = not h;
        seen = Level h ∷ p.seen;
        is =
            ap (cut_clock t mask h) p.is
            ∙ (clock_calm t mask h p.low us p.seen (call_calm t 0 v ss h)
            ∙ (ap (λ bs. bus_of true (not h) bs (Level l ∷ p.seen))
            (map_step (calling 1 v) (waiting t (shifted v l) 65 0) _ (λ s. call_last t v l s.addr s.joined s.heard s.state) ss)
            ∙ (ap (λ b. bus_of true (not h) (map (waiting t (shifted v b) 65 0) ss) (Level b ∷ p.seen)) (call_sda t 1 v ss h)
            ∙ ap (λ n. bus_of true (not h) (map (waiting t n 65 0) ss) (Level h ∷ p.seen)) whole)));
      }

  abbrev ninth : Bus X
  ninth = cut_rise t mask true (cut_clocks t mask byte 1 8 (start_pulls t mask (free ss c)))

  in_time : some_one (stays t byte 64) ss ≡ false → InTime t byte ss ninth
  in_time quick =
      subst (λ (u : Bus X). InTime t byte ss (cut_rise t mask true u)) (sym eighth.is)
      (ninth_in_time t byte ss mask eighth.low eighth.seen quick)

  too_late : AllByRecursion (λ (s : Site X). IsByte (t.hold s.state)) ss → some_one (stays t byte 64) ss ≡ true → OutOn begun ninth
  too_late all slow =
      subst (λ (u : Bus X). OutOn begun (cut_rise t mask true u)) (sym eighth.is)
      (ninth_too_late t mask byte ss eighth.low eighth.seen all slow)

  -- the lines after the ninth clock
  abbrev behind : Bus X
  behind = cut_clock t mask true (cut_clocks t mask byte 1 8 (start_pulls t mask (free ss c)))

  behind_is : (us : List (Bit X)) (d : Seen) → pulled t mask ninth true false ≡ bus_of true false us d → behind ≡ bus_of true false us d
  unfolding cut_clock
  behind_is us d e = e

  -- it is heard: in time, and acknowledged
  module _ (quick : some_one (stays t byte 64) ss ≡ false) (acked : some_one (answers_so t is_ack (byte / 2) (is_reading byte)) ss
      ≡ true) where
    falls : pulled t mask ninth true false ≡ giving t mask begun 8 (in_time quick).seen
    falls = in_time_falls t byte ss fair mask ninth (in_time quick) quick reads

    low_level : sda_level t ninth ≡ false
    low_level = in_time_level t byte ss ninth (in_time quick) ∙ ap not acked

    heard_ninth : Frees t mask (suc (lows t mask begun 8)) false (where_high t mask begun 8) (pulled t mask ninth false false)
    heard_ninth =
        let i : InTime t byte ss ninth = in_time quick in
        let bs : List (Bit X) = map (waiting t byte i.left i.made) ss in
        let w : Bus X = wait_bus t byte i.left i.made ss i.seen in
        let d : Seen = Level (bit_left t mask begun 8) ∷ i.seen in
        let fell : pulled t mask w true false ≡ giving t mask begun 8 i.seen = ap (λ u. pulled t mask u true false) (sym i.is) ∙ falls in
        subst (Frees t mask (suc (lows t mask begun 8)) false (where_high t mask begun 8)) (sym (still t byte ss mask ninth i ∙ i.is))
        (record {
          up = ap scl_level (sym i.is) ∙ in_time_up t byte ss ninth i;
          level = ap (sda_level t) (sym i.is) ∙ low_level;
          seen = high_seen t mask begun 8 d;
          is =
              clears_from t mask bs i.seen false (ap scl_level (sym i.is) ∙ in_time_up t byte ss ninth i)
              (ap (sda_level t) (sym i.is) ∙ low_level)
              ∙ (pulses_on t mask 8 0 w (given t mask begun 8 d) (bit_left t mask begun 8)
              (pulse_to t mask begun 8 w i.seen (omega arith) fell)
              ∙ (clears_by t mask begun 8 8 1 d (omega arith) (omega arith) (bit_left t mask begun 8) refl
              ∙ ap (λ m. clearing (Free m) (free (rejoin mask (map (stop_site t) (where_high t mask begun 8)))
              (high_seen t mask begun 8 d)))
              (one_more (lows t mask begun 8))));
        })

    heard_data : (n k last : ℕ) → 8 ≡ n + k → k ≤ 8 → 8 < last
        → Frees t mask (lows t mask begun k) (bit_left t mask begun k) (where_high t mask begun k)
        (cut_off t mask byte last (cut_clocks t mask byte 10 n behind))
    heard_data n k last is few more =
        let d : Seen = (in_time quick).seen in
        subst (λ (u : Bus X). Frees t mask (lows t mask begun k) (bit_left t mask begun k) (where_high t mask begun k)
        (cut_off t mask byte last (cut_clocks t mask byte 10 n u))) (sym (behind_is (map (at (Give 8)) begun) d falls))
        (data_frees t mask begun byte 10 n k last d is few (omega arith) more)

  -- it isn't heard: not acknowledged, or too late
  unheard_ninth : AllByRecursion (λ (s : Site X). IsByte (t.hold s.state)) ss → (slow : Bool) → some_one (stays t byte 64) ss ≡ slow
      → (slow ≡ false → some_one (answers_so t is_ack (byte / 2) (is_reading byte)) ss ≡ false)
      → Frees t mask 0 true begun (pulled t mask ninth false false)
  unheard_ninth all false is none =
      let i : InTime t byte ss ninth = in_time is in
      subst (Frees t mask 0 true begun) (sym (still t byte ss mask ninth i)) (in_time_frees t byte ss mask ninth i (none refl))
  unheard_ninth all true is none =
      let o : OutOn begun ninth = too_late all is in
      let e : pulled t mask ninth false false ≡ bus_of false false (map released begun) o.seen =
      ap (λ u. pulled t mask u false false) o.is ∙ stays_free t mask (map released begun) o.seen in
      subst (Frees t mask 0 true begun) (sym e) (out_frees t mask begun begun o.seen)

  unheard_behind : AllByRecursion (λ (s : Site X). IsByte (t.hold s.state)) ss → (slow : Bool) → some_one (stays t byte 64) ss ≡ slow
      → (slow ≡ false → some_one hearing begun ≡ false)
      → (d : Seen) × (behind ≡ bus_of true false (map released begun) d)
  unheard_behind all false is none =
      let i : InTime t byte ss ninth = in_time is in (
        i.seen,
        behind_is (map released begun) i.seen
            (in_time_falls t byte ss fair mask ninth i is reads
            ∙ ap (λ bs. bus_of true false bs i.seen) (all_out (Give 8) begun (none refl) ∙ sym (released_out begun))),
      )
  unheard_behind all true is none =
      let o : OutOn begun ninth = too_late all is in
      (o.seen, behind_is (map released begun) o.seen (ap (λ u. pulled t mask u true false) o.is ∙ out_fall t mask begun o.seen))

  unheard_data : AllByRecursion (λ (s : Site X). IsByte (t.hold s.state)) ss → (slow : Bool) → some_one (stays t byte 64) ss ≡ slow
      → (slow ≡ false → some_one hearing begun ≡ false) → (n last : ℕ) → 8 < last
      → Frees t mask 0 true begun (cut_off t mask byte last (cut_clocks t mask byte 10 n behind))
  unheard_data all slow is none n last more =
      let p = unheard_behind all slow is none in
      subst (λ (u : Bus X). Frees t mask 0 true begun (cut_off t mask byte last (cut_clocks t mask byte 10 n u))) (sym p.1)
      (outs_free t mask begun byte 10 n last p.0 (omega arith) more)

  -- ---- the first eight rises
  abbrev cut_at : ℕ → Bus X
  cut_at cut = cut_pulls t mask byte cut (free ss c)

  early : (n left : ℕ) → 7 ≡ n + suc left → Frees t mask 0 true (behind_bit t mask ss (cut_level byte (suc n)))
      (cut_off t mask byte (suc n) (cut_clocks t mask byte 1 n (start_pulls t mask (free ss c))))
  early n left is = seven_frees t mask ss left (value 0 (levels_from byte 1 n)) (cut_level byte (suc n)) _ (comes n (suc left) is)

  early_8 : Frees t mask 0 true begun (cut_at 8)
  unfolding cut_pulls
  early_8 =
      let v : ℕ = value 0 (levels_from byte 1 7) in
      let w : Bus X = cut_clocks t mask byte 1 7 (start_pulls t mask (free ss c)) in
      let odd : cut_level byte 8 ≡ true = last_bit byte reads in
      let e : shifted v true ≡ byte = ap (shifted v) (sym odd) ∙ whole in
      subst (λ (h : Bool). Frees t mask 0 true begun (pulled t mask (cut_rise t mask h w) false false)) (sym odd)
      (subst (λ (n : ℕ). Frees t mask 0 true (map (started t n) ss) (pulled t mask (cut_rise t mask true w) false false)) e
      (eight_frees t mask ss v w (comes 7 0 refl)))

  -- ---- what the definitions say of them
  abbrev pub byte_sent : ℕ
  byte_sent = and_all (map (sent_by t) begun)

  -- the sites where SDA went high: from the eighth rise on the start has come, and at the last one the controller's answer
  abbrev pub sites_at : Bool → ℕ → List (Site X)
  sites_at heard cut =
      cond (nat_lt 7 cut) (cond (heard && (cut + low_rises (level_by heard byte_sent) MOST_PULSES cut == 18))
      (map (get_site t false) begun) begun)
      (behind_bit t mask ss (cut_level byte cut))

  abbrev pub FreesAt : Bool → ℕ → Type 0
  FreesAt heard cut =
      Frees t mask (low_rises (level_by heard byte_sent) MOST_PULSES cut) (level_by heard byte_sent cut) (sites_at heard cut) (cut_at cut)

  module _ (quick : some_one (stays t byte 64) ss ≡ false) (acked : some_one (answers_so t is_ack (byte / 2) (is_reading byte)) ss
      ≡ true) where
    heard_nine : FreesAt true 9
    unfolding cut_pulls
    heard_nine =
        let p : (lows t mask begun 8 == 8) ≡ (9 + suc (lows t mask begun 8) == 18) = same_sum (lows t mask begun 8) in
        subst (λ (gs : List (Site X)). Frees t mask (suc (lows t mask begun 8)) false gs (cut_at 9))
        (high_if t mask begun 8 ∙ ap (λ b. cond b (map (get_site t false) begun) begun) p)
        (heard_ninth quick acked)

    heard_later : (n k last : ℕ) → 8 ≡ n + k → k ≤ 8 → last + k ≡ 18
        → Frees t mask (lows t mask begun k) (bit_left t mask begun k)
        (cond (last + lows t mask begun k == 18) (map (get_site t false) begun) begun)
        (cut_off t mask byte last (cut_clocks t mask byte 10 n behind))
    heard_later n k last is few sum =
        let p : (lows t mask begun k == k) ≡ (last + lows t mask begun k == 18) = other_sum (lows t mask begun k) k last sum in
        subst (λ (gs : List (Site X)). Frees t mask (lows t mask begun k) (bit_left t mask begun k) gs
        (cut_off t mask byte last (cut_clocks t mask byte 10 n behind)))
        (high_if t mask begun k ∙ ap (λ b. cond b (map (get_site t false) begun) begun) p)
        (heard_data quick acked n k last is few (omega (arith, few, sum)))

    pub frees_heard : (cut : ℕ) → 1 ≤ cut → cut ≤ 18 → FreesAt true cut
    unfolding cut_pulls
    frees_heard zero some few = absurd (omega (arith, some))
    frees_heard (suc zero) some few = early 0 6 refl
    frees_heard (suc (suc zero)) some few = early 1 5 refl
    frees_heard (suc (suc (suc zero))) some few = early 2 4 refl
    frees_heard (suc (suc (suc (suc zero)))) some few = early 3 3 refl
    frees_heard (suc (suc (suc (suc (suc zero))))) some few = early 4 2 refl
    frees_heard (suc (suc (suc (suc (suc (suc zero)))))) some few = early 5 1 refl
    frees_heard (suc (suc (suc (suc (suc (suc (suc zero))))))) some few = early 6 0 refl
    frees_heard (suc (suc (suc (suc (suc (suc (suc (suc zero)))))))) some few = early_8
    frees_heard (suc (suc (suc (suc (suc (suc (suc (suc (suc zero))))))))) some few = heard_nine
    frees_heard (suc (suc (suc (suc (suc (suc (suc (suc (suc (suc zero)))))))))) some few = heard_later 0 8 10 refl (omega arith) refl
    frees_heard (suc (suc (suc (suc (suc (suc (suc (suc (suc (suc (suc zero))))))))))) some few = heard_later 1 7 11 refl (omega arith) refl
    frees_heard (suc (suc (suc (suc (suc (suc (suc (suc (suc (suc (suc (suc zero)))))))))))) some few =
        heard_later 2 6 12 refl (omega arith) refl
    frees_heard (suc (suc (suc (suc (suc (suc (suc (suc (suc (suc (suc (suc (suc zero))))))))))))) some few =
        heard_later 3 5 13 refl (omega arith) refl
    frees_heard (suc (suc (suc (suc (suc (suc (suc (suc (suc (suc (suc (suc (suc (suc zero)))))))))))))) some few =
        heard_later 4 4 14 refl (omega arith) refl
    frees_heard (suc (suc (suc (suc (suc (suc (suc (suc (suc (suc (suc (suc (suc (suc (suc zero))))))))))))))) some few =
        heard_later 5 3 15 refl (omega arith) refl
    frees_heard (suc (suc (suc (suc (suc (suc (suc (suc (suc (suc (suc (suc (suc (suc (suc (suc zero)))))))))))))))) some few =
        heard_later 6 2 16 refl (omega arith) refl
    frees_heard (suc (suc (suc (suc (suc (suc (suc (suc (suc (suc (suc (suc (suc (suc (suc (suc (suc zero))))))))))))))))) some few =
        heard_later 7 1 17 refl (omega arith) refl
    frees_heard (suc (suc (suc (suc (suc (suc (suc (suc (suc (suc (suc (suc (suc (suc (suc (suc (suc (suc zero)))))))))))))))))) some few =
        heard_later 8 0 18 refl (omega arith) refl
    frees_heard (suc (suc (suc (suc (suc (suc (suc (suc (suc (suc (suc (suc (suc (suc (suc (suc (suc (suc (suc n))))))))))))))))))) some
        few = absurd (omega (arith, few))

  pub frees_unheard : AllByRecursion (λ (s : Site X). IsByte (t.hold s.state)) ss → (slow : Bool) → some_one (stays t byte 64) ss ≡ slow
      → (slow ≡ false → some_one (answers_so t is_ack (byte / 2) (is_reading byte)) ss ≡ false)
      → (slow ≡ false → some_one hearing begun ≡ false) → (cut : ℕ) → 1 ≤ cut → cut ≤ 18 → FreesAt false cut
  unfolding cut_pulls
  frees_unheard all slow is none nobody zero some few = absurd (omega (arith, some))
  frees_unheard all slow is none nobody (suc zero) some few = early 0 6 refl
  frees_unheard all slow is none nobody (suc (suc zero)) some few = early 1 5 refl
  frees_unheard all slow is none nobody (suc (suc (suc zero))) some few = early 2 4 refl
  frees_unheard all slow is none nobody (suc (suc (suc (suc zero)))) some few = early 3 3 refl
  frees_unheard all slow is none nobody (suc (suc (suc (suc (suc zero))))) some few = early 4 2 refl
  frees_unheard all slow is none nobody (suc (suc (suc (suc (suc (suc zero)))))) some few = early 5 1 refl
  frees_unheard all slow is none nobody (suc (suc (suc (suc (suc (suc (suc zero))))))) some few = early 6 0 refl
  frees_unheard all slow is none nobody (suc (suc (suc (suc (suc (suc (suc (suc zero)))))))) some few = early_8
  frees_unheard all slow is none nobody (suc (suc (suc (suc (suc (suc (suc (suc (suc zero))))))))) some few = unheard_ninth all slow is none
  frees_unheard all slow is none nobody (suc (suc (suc (suc (suc (suc (suc (suc (suc (suc zero)))))))))) some few =
      unheard_data all slow is nobody 0 10 (omega arith)
  frees_unheard all slow is none nobody (suc (suc (suc (suc (suc (suc (suc (suc (suc (suc (suc zero))))))))))) some few =
      unheard_data all slow is nobody 1 11 (omega arith)
  frees_unheard all slow is none nobody (suc (suc (suc (suc (suc (suc (suc (suc (suc (suc (suc (suc zero)))))))))))) some few =
      unheard_data all slow is nobody 2 12 (omega arith)
  frees_unheard all slow is none nobody (suc (suc (suc (suc (suc (suc (suc (suc (suc (suc (suc (suc (suc zero))))))))))))) some few =
      unheard_data all slow is nobody 3 13 (omega arith)
  frees_unheard all slow is none nobody (suc (suc (suc (suc (suc (suc (suc (suc (suc (suc (suc (suc (suc (suc zero)))))))))))))) some few =
      unheard_data all slow is nobody 4 14 (omega arith)
  frees_unheard all slow is none nobody (suc (suc (suc (suc (suc (suc (suc (suc (suc (suc (suc (suc (suc (suc (suc zero))))))))))))))) some
      few = unheard_data all slow is nobody 5 15 (omega arith)
  frees_unheard all slow is none nobody (suc (suc (suc (suc (suc (suc (suc (suc (suc (suc (suc (suc (suc (suc (suc (suc zero))))))))))))))))
      some few = unheard_data all slow is nobody 6 16 (omega arith)
  frees_unheard all slow is none nobody (suc (suc (suc (suc (suc
      (suc (suc (suc (suc (suc (suc (suc (suc (suc (suc (suc (suc zero))))))))))))))))) some few =
      unheard_data all slow is nobody 7 17 (omega arith)
  frees_unheard all slow is none nobody (suc (suc (suc (suc (suc
      (suc (suc (suc (suc (suc (suc (suc (suc (suc (suc (suc (suc (suc zero)))))))))))))))))) some few =
      unheard_data all slow is nobody 8 18 (omega arith)
  frees_unheard all slow is none nobody (suc (suc (suc (suc (suc
      (suc (suc (suc (suc (suc (suc (suc (suc (suc (suc (suc (suc (suc (suc n))))))))))))))))))) some few = absurd (omega (arith, few))

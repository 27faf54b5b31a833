-- A byte on the wires, whole or cut: what a controller's clocks come to, from the lemmas on one clock.
use Rattle.wire_spec.proofs.Cited.{◌≡◌, ℕ, zero, suc, ◌+◌, ◌<◌, ◌≤◌, Bool, true, false, cond, List, [], ◌∷◌, ◌++◌, length, map, refl, ap, ◌∙◌}
use Rattle.wire_spec.proofs.Cited.{arith, not, replicate, Table, Out, In, Give, Site, Bit, bit, bits, shifted, value, clock, some_one, sda}
use Rattle.wire_spec.proofs.Cited.{where_joined, clock_all, at, put_site, acks, sent_by, and_all, get_site, Seen, Level, with_levels, Mask, Came}
use Rattle.wire_spec.proofs.Cited.{Bus, bit_step, then_bits, bus_of, came_up, calling, byte_seen, last_low, within, within_address}
use Rattle.wire_spec.proofs.Cited.{sent_byte, not-not}
use Rattle.wire_spec.specs.Wires.{left_of}
use Rattle.wire_spec.specs.Bus.{bit_steps}
use Rattle.wire_spec.specs.Calls.{read_byte, then_answer}
use Rattle.wire_spec.specs.Laws.{bits_above}
use Rattle.wire_spec.proofs.ByteLemmas.{value_bits}
use Rattle.wire_spec.proofs.Roots.{map_step, take_one, take_sda, give_sda, give_step}
use Rattle.wire_spec.proofs.Calm.{IsCalm, bit_calm}
use Rattle.wire_spec.proofs.Rests.{take_calm, give_calm, put_bits, put_ack, get_bits, get_answer}
use Rattle.wire_spec.proofs.Address.{call_one, call_sda}
use Rattle.wire_spec.proofs.StartClocks.{call_calm}

pub bits_are : (byte : ℕ) → byte < 256 → value 0 (bits 8 byte) ≡ byte
bits_are byte lt = value_bits 8 byte 0 ∙ omega arith

-- ---- a whole byte
pub puts_are_events : {X : Type 0} (t : Table X) (mask : Mask X) (byte : ℕ) → byte < 256 → (low : Bool) (ss : List (Site X)) (c : Seen)
    → sent_byte t mask byte (within (In false 8 0) low ss c)
    ≡ came_up (shifted 0 (not (some_one (acks t byte) ss))) (within (In false 8 0) false (map (put_site t byte) ss)
    (byte_seen byte (some_one (acks t byte) ss) c))
puts_are_events {X} t mask byte lt low ss c =
    ap (λ (d : Came X). then_bits d (bit_step t mask 0 true d.bus)) (put_bits t mask byte lt low ss c)
    ∙ put_ack t mask byte 0 (last_low low (bits 8 byte)) ss (with_levels (bits 8 byte) c)

pub gets_are_events : {X : Type 0} (t : Table X) (mask : Mask X) (ack low : Bool) (ss : List (Site X)) (c : Seen)
    → read_byte t mask ack (within (Give 8) low ss c)
    ≡ came_up (and_all (map (sent_by t) ss)) (within (cond ack (Give 8) Out) ack (map (get_site t ack) ss)
    (byte_seen (and_all (map (sent_by t) ss)) ack c))
gets_are_events {X} t mask ack low ss c =
    let a : ℕ = and_all (map (sent_by t) ss) in
    let before : Seen = with_levels (bits 8 a) c in
    ap (λ (d : Came X). then_answer d (bit_step t mask 0 (not ack) d.bus)) (get_bits t mask low ss c)
    ∙ (ap (λ (d : Came X). record d { read = a }) (get_answer t mask ack 0 false ss before)
    ∙ ap (λ l. came_up a (within (cond ack (Give 8) Out) l (map (get_site t ack) ss) (Level (not ack) ∷ before))) (not-not ack))

-- ---- a byte that is cut: one bit after the other, of targets that shift bits in alike
module _ {X : Type 0} (t : Table X) (mask : Mask X) (ss : List (Site X)) (f : ℕ → ℕ → Site X → Bit X)
    (calm : (m v : ℕ) (h : Bool) → IsCalm t (map (f (suc (suc m)) v) ss) h)
    (step : (m v : ℕ) (l : Bool) (s : Site X) → where_joined (λ b. clock t b l) (f (suc (suc m)) v s) ≡ f (suc m) (shifted v l) s)
    (free : (m v : ℕ) (h : Bool) → sda t (map (f (suc (suc m)) v) ss) h ≡ h) where
  abbrev stand : ℕ → ℕ → Bool → Seen → Bus X
  stand left v low c = bus_of true low (map (f left v) ss) c

  one_bit : (m v : ℕ) (h low : Bool) (c : Seen)
      → bit_step t mask v h (stand (suc (suc m)) v low c) ≡ came_up (shifted v h) (stand (suc m) (shifted v h) (not h) (Level h ∷ c))
  one_bit m v h low c =
      let l : Bool = sda t (map (f (suc (suc m)) v) ss) h in
      bit_calm t mask v h low (map (f (suc (suc m)) v) ss) c (calm m v h)
      ∙ (ap (λ bs. came_up (shifted v l) (bus_of true (not h) bs (Level l ∷ c)))
      (map_step (f (suc (suc m)) v) (f (suc m) (shifted v l)) _ (λ s. step m v l s) ss)
      ∙ ap (λ k. came_up (shifted v k) (stand (suc m) (shifted v k) (not h) (Level k ∷ c))) (free m v h))

  pub cut_by : (hs : List Bool) (left v : ℕ) (low : Bool) (c : Seen) → length hs ≤ left
      → bit_steps t mask v hs (stand (suc left) v low c)
      ≡ came_up (value v hs) (stand (suc (left_of left hs)) (value v hs) (last_low low hs) (with_levels hs c))
  unfolding bit_steps
  cut_by [] left v low c le = refl
  cut_by (h ∷ hs) zero v low c le = absurd (omega (arith, le))
  cut_by (h ∷ hs) (suc m) v low c le =
      ap (λ (d : Came X). then_bits d (bit_steps t mask d.read hs d.bus)) (one_bit m v h low c)
      ∙ cut_by hs m (shifted v h) (not h) (Level h ∷ c) (omega (arith, le))

pub cut_put : {X : Type 0} (t : Table X) (mask : Mask X) (hs : List Bool) (left v : ℕ) (low : Bool) (ss : List (Site X)) (c : Seen)
    → length hs ≤ left
    → bit_steps t mask v hs (within (In false (suc left) v) low ss c)
    ≡ came_up (value v hs) (within (In false (suc (left_of left hs)) (value v hs)) (last_low low hs) ss (with_levels hs c))
cut_put t mask hs left v low ss c le =
    cut_by t mask ss (λ n w. at (In false n w)) (λ m w h. take_calm t (suc m) w ss h)
    (λ m w l s. take_one t m w l s.addr s.joined s.heard s.state) (λ m w h. take_sda t (suc (suc m)) w ss h) hs left v low c le

pub cut_address : {X : Type 0} (t : Table X) (mask : Mask X) (hs : List Bool) (left v : ℕ) (low : Bool) (ss : List (Site X)) (c : Seen)
    → length hs ≤ left
    → bit_steps t mask v hs (within_address (suc left) v low ss c)
    ≡ came_up (value v hs) (within_address (suc (left_of left hs)) (value v hs) (last_low low hs) ss (with_levels hs c))
cut_address t mask hs left v low ss c le =
    cut_by t mask ss calling (λ m w h. call_calm t (suc m) w ss h)
    (λ m w l s. call_one t m w l s.addr s.joined s.heard s.state) (λ m w h. call_sda t (suc (suc m)) w ss h) hs left v low c le

-- a bit of the AND goes out
give_bit : {X : Type 0} (t : Table X) (mask : Mask X) (k v : ℕ) → k < 8 → (low : Bool) (ss : List (Site X)) (c : Seen)
    → bit_step t mask v true (within (Give (suc k)) low ss c)
    ≡ came_up (shifted v (bit (and_all (map (sent_by t) ss)) k)) (within (Give k) false ss
    (Level (bit (and_all (map (sent_by t) ss)) k) ∷ c))
give_bit t mask k v lt low ss c =
    bit_calm t mask v true low (map (at (Give (suc k))) ss) c (give_calm t (suc k) ss true)
    ∙ (ap (λ l. came_up (shifted v l) (bus_of true false (clock_all t (map (at (Give (suc k))) ss) true) (Level l ∷ c))) (give_sda t k lt ss)
    ∙ ap (λ bs. came_up (shifted v (bit (and_all (map (sent_by t) ss)) k)) (bus_of true false bs
    (Level (bit (and_all (map (sent_by t) ss)) k) ∷ c))) (give_step t k ss))

cut_get_by : {X : Type 0} (t : Table X) (mask : Mask X) (n left k v : ℕ) → k ≡ n + left → k ≤ 8
    → (low : Bool) (ss : List (Site X)) (c : Seen)
    → bit_steps t mask v (replicate n true) (within (Give k) low ss c)
    ≡ came_up (value v (bits_above n left (and_all (map (sent_by t) ss)))) (within (Give left) (last_low low (replicate n true)) ss
    (with_levels (bits_above n left (and_all (map (sent_by t) ss))) c))
unfolding bit_steps
cut_get_by t mask zero left k v is le low ss c =
    let e : k ≡ left = omega (arith, is) in
    ap (λ m. came_up v (within (Give m) low ss c)) e
cut_get_by t mask (suc n) left zero v is le low ss c = absurd (omega (arith, is))
cut_get_by {X} t mask (suc n) left (suc k) v is le low ss c =
    let a : ℕ = and_all (map (sent_by t) ss) in
    let e : k ≡ n + left = omega (arith, is) in
    ap (λ (d : Came X). then_bits d (bit_steps t mask d.read (replicate n true) d.bus)) (give_bit t mask k v (omega (arith, le)) low ss c)
    ∙ (cut_get_by t mask n left k (shifted v (bit a k)) e (omega (arith, le)) false ss (Level (bit a k) ∷ c)
    ∙ ap (λ m. came_up (value (shifted v (bit a m)) (bits_above n left a))
    (within (Give left) (last_low false (replicate n true)) ss (with_levels (bits_above n left a) (Level (bit a m) ∷ c)))) e)

pub cut_get : {X : Type 0} (t : Table X) (mask : Mask X) (n left : ℕ) (low : Bool) (ss : List (Site X)) (c : Seen) → n + left ≤ 8
    → bit_steps t mask 0 (replicate n true) (within (Give (n + left)) low ss c)
    ≡ came_up (value 0 (bits_above n left (and_all (map (sent_by t) ss)))) (within (Give left) (last_low low (replicate n true)) ss
    (with_levels (bits_above n left (and_all (map (sent_by t) ss))) c))
cut_get t mask n left low ss c le = cut_get_by t mask n left (n + left) 0 refl le low ss c

-- Where nobody holds SCL, a controller bit is a clock.
use Rattle.wire_spec.proofs.Cited.{◌≡◌, ℕ, zero, suc, ◌/◌, ◌%◌, Bool, true, false, cond, List, [], ◌∷◌, map, refl, ap, ◌∙◌, ◌==◌, not}
use Rattle.wire_spec.proofs.Cited.{Table, Mode, Out, In, Answered, Give, Gave, Site, Bit, shifted, value, rise, fall, tick, clock, called}
use Rattle.wire_spec.proofs.Cited.{other, stands, some_one, sda, where_joined, clock_all, run, levels, Mask, Seen, Level, with_levels, Bus}
use Rattle.wire_spec.proofs.Cited.{holds_line, scl_level, sda_level, each, rises, edge, closed, then_bits, bus_of, came_up, last_low}
use Rattle.wire_spec.proofs.Cited.{not-not}
use Rattle.wire_spec.specs.Wires.{rise_in, shift, give}
use Rattle.wire_spec.specs.Bus.{pulled, looked, await, bit_step, bit_steps}
use Rattle.wire_spec.proofs.Roots.{map_step}

-- in these clocks nobody holds SCL, and what is pulled stays while SCL is high
pub record IsCalm {X : Type 0} (t : Table X) (ts : List (Bit X)) (h : Bool) : Type 0 where
  pub low : some_one holds_line ts ≡ false
  pub high : some_one holds_line (map (where_joined (λ b. rise t b (sda t ts h))) ts) ≡ false
  pub stays : sda t (map (where_joined (λ b. rise t b (sda t ts h))) ts) h ≡ sda t ts h

abbrev pub Calm : {X : Type 0} → Table X → List (Bit X) → List Bool → Type 0
Calm t ts [] = Unit {0}
Calm t ts (h ∷ hs) = IsCalm t ts h × Calm t (clock_all t ts h) hs

-- SCL is let go, and rises
pub goes_up : {X : Type 0} (t : Table X) (mask : Mask X) (ts : List (Bit X)) (c : Seen) (low : Bool)
    → some_one holds_line ts ≡ false
    → pulled t mask (bus_of true low ts c) false low
    ≡ rises t (bus_of false low ts c)
unfolding pulled
goes_up t mask ts c low calm =
    ap (λ b. cond (not b) (rises t (bus_of false low ts c)) (bus_of false low ts c)) calm

-- SDA is set while SCL is low
pub sets_data : {X : Type 0} (t : Table X) (mask : Mask X) (ts : List (Bit X)) (c : Seen) (was low : Bool)
    → pulled t mask (bus_of true was ts c) true low ≡ bus_of true low ts c
unfolding pulled
sets_data t mask ts c was low = refl

-- looks high at once
pub looks_up : {X : Type 0} (t : Table X) (v n : ℕ) (w : Bus X) → scl_level w ≡ true
    → await t v (suc n) w ≡ came_up (shifted v (sda_level t w)) w
unfolding await looked
looks_up t v n w up =
    ap (λ u. cond u (came_up (shifted v (sda_level t w)) (cond u w (cond (scl_level (each tick w)) (rises t (each tick w)) (each tick w))))
    (await t v n (looked t w))) up

-- SCL is pulled, and falls
pub goes_down : {X : Type 0} (t : Table X) (mask : Mask X) (w : Bus X) (low : Bool) → scl_level w ≡ true
    → pulled t mask w true low ≡ each fall (bus_of true low w.targets w.seen)
unfolding pulled
goes_down t mask w low up = ap (λ u. edge t mask u (sda_level t w) (bus_of true low w.targets w.seen)) up

named_joined : {X : Type 0} (t : Table X) (s : Site X) (byte : ℕ) (is : Bool)
    → (cond {A = Bit X} is (called t s ((byte % 2) == 1)) (stands (other t s) Out 0)).site.joined ≡ s.joined
named_joined t s byte true = refl
named_joined t s byte false = refl

shift_joined : {X : Type 0} (t : Table X) (b : Bit X) (address : Bool) (left v : ℕ) → (shift t b address left v).site.joined ≡ b.site.joined
shift_joined t b address zero v = refl
shift_joined t b true (suc zero) v = named_joined t b.site v ((v / 2) == b.site.addr)
shift_joined t b false (suc zero) v = refl
shift_joined t b address (suc (suc n)) v = refl

give_joined : {X : Type 0} (t : Table X) (b : Bit X) (left : ℕ) (l : Bool) → (give t b left l).site.joined ≡ b.site.joined
give_joined t b zero l = refl
give_joined t b (suc n) l = refl

rise_joined : {X : Type 0} (t : Table X) (b : Bit X) (m : Mode) (l : Bool) → (rise_in t b m l).site.joined ≡ b.site.joined
rise_joined t b Out l = refl
rise_joined t b (In address left v) l = shift_joined t b address left (shifted v l)
rise_joined t b (Answered begun acked next looks) l = refl
rise_joined t b (Give left) l = give_joined t b left l
rise_joined t b (Gave more) l = refl

by_joined : {X : Type 0} (f g : Bit X → Bit X) (b : Bit X) (j : Bool) → b.site.joined ≡ j → (f b).site.joined ≡ b.site.joined
    → where_joined g (cond j (f b) b) ≡ cond j (g (f b)) b
by_joined f g b true is same = ap (λ k. cond k (g (f b)) (f b)) (same ∙ is)
by_joined f g b false is same = ap (λ k. cond k (g b) b) is

fall_rise : {X : Type 0} (t : Table X) (l : Bool) (b : Bit X)
    → where_joined fall (where_joined (λ c. rise t c l) b) ≡ where_joined (λ c. clock t c l) b
fall_rise t l b = by_joined (λ c. rise t c l) fall b b.site.joined refl (rise_joined t b b.mode l)

abbrev pub risen : {X : Type 0} → Table X → List (Bit X) → Bool → List (Bit X)
risen t ts h = map (where_joined (λ b. rise t b (sda t ts h))) ts

-- what the looks after a pulse come to
pub up_calm : {X : Type 0} (t : Table X) (v n : ℕ) (h : Bool) (ts : List (Bit X)) (c : Seen) → IsCalm t ts h
    → await t v (suc n) (rises t (bus_of false (not h) ts c))
    ≡ came_up (shifted v (sda t ts h)) (bus_of false (not h) (risen t ts h) (Level (sda t ts h) ∷ c))
up_calm {X} t v n h ts c calm =
    let w : Bus X = bus_of false (not h) (risen t ts h) (Level (sda t ts h) ∷ c) in
    ap (λ k. await t v (suc n) (bus_of false (not h) (risen t ts k) (Level (sda t ts k) ∷ c))) (not-not h)
    ∙ (looks_up t v n w (ap not calm.high)
    ∙ ap (λ l. came_up (shifted v l) w) (ap (λ k. sda t (risen t ts h) k) (not-not h) ∙ calm.stays))

pub bit_calm : {X : Type 0} (t : Table X) (mask : Mask X) (v : ℕ) (h : Bool) (low : Bool) (ts : List (Bit X)) (c : Seen) → IsCalm t ts h
    → bit_step t mask v h (bus_of true low ts c)
    ≡ came_up (shifted v (sda t ts h)) (bus_of true (not h) (clock_all t ts h) (Level (sda t ts h) ∷ c))
unfolding bit_step
bit_calm {X} t mask v h low ts c calm =
    let w : Bus X = bus_of false (not h) (risen t ts h) (Level (sda t ts h) ∷ c) in
    ap (λ u. closed t mask h (await t v 65 (pulled t mask u false (not h)))) (sets_data t mask ts c low (not h))
    ∙ (ap (λ u. closed t mask h (await t v 65 u)) (goes_up t mask ts c (not h) calm.low)
    ∙ (ap (closed t mask h) (up_calm t v 64 h ts c calm)
    ∙ (ap (λ u. came_up (shifted v (sda t ts h)) u) (goes_down t mask w (not h) (ap not calm.high))
    ∙ ap (λ us. came_up (shifted v (sda t ts h)) (bus_of true (not h) us (Level (sda t ts h) ∷ c))) (map_step _ _ _ (fall_rise t (sda t ts h)) ts))))

pub bits_calm : {X : Type 0} (t : Table X) (mask : Mask X) (hs : List Bool) (v : ℕ) (low : Bool) (ts : List (Bit X)) (c : Seen)
    → Calm t ts hs
    → bit_steps t mask v hs (bus_of true low ts c)
    ≡ came_up (value v (levels t ts hs)) (bus_of true (last_low low hs) (run t ts hs) (with_levels (levels t ts hs) c))
unfolding bit_steps
bits_calm t mask [] v low ts c calm = refl
bits_calm t mask (h ∷ hs) v low ts c calm =
    ap (λ d. then_bits d (bit_steps t mask d.read hs d.bus)) (bit_calm t mask v h low ts c calm.0)
    ∙ bits_calm t mask hs (shifted v (sda t ts h)) (not h) (clock_all t ts h) (Level (sda t ts h) ∷ c) calm.1

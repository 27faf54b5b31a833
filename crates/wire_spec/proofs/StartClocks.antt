-- A start on the wires, and the address byte after it.
use Rattle.wire_spec.proofs.Cited.{◌≡◌, ℕ, zero, suc, ◌%◌, ◌<◌, Bool, true, false, cond, List, [], ◌∷◌, length, map, refl, ap, sym, ◌∙◌}
use Rattle.wire_spec.proofs.Cited.{arith, subst, ◌==◌, not, Table, Mode, Out, site_of, Site, Bit, bit, bits, shifted, value, rise, fall}
use Rattle.wire_spec.proofs.Cited.{holds, begin, called, other, is_named, stands, some_one, pulls_line, sda, where_joined, clock_all}
use Rattle.wire_spec.proofs.Cited.{levels, run, at, Mask, Seen, Started, with_levels, Bus, holds_line, scl_level, sda_level, each, rises, edge, finishes}
use Rattle.wire_spec.proofs.Cited.{await, closed, bit_steps, bus_of, came_up, gave_up, calling, stays, late, late_bus, rose, last_low}
use Rattle.wire_spec.proofs.Cited.{and_right}
use Rattle.wire_spec.specs.Wires.{pulls}
use Rattle.wire_spec.specs.Bus.{begins, pulled, bit_step}
use Rattle.wire_spec.proofs.Roots.{map_step, some_map, no_one, map_map, free_levels}
use Rattle.wire_spec.proofs.Calm.{IsCalm, Calm, goes_down, sets_data, bits_calm}
use Rattle.wire_spec.proofs.Rests.{calm_by}
use Rattle.wire_spec.proofs.ByteLemmas.{value_bits}
use Rattle.wire_spec.proofs.AckClock.{Acked, wait_bus, seen_by, let_go, ack_clock, waiting}
use Rattle.wire_spec.proofs.SlowClock.{slow_clock}
use Rattle.wire_spec.proofs.Address.{call_run, call_one, call_sda}

-- SDA goes down while SCL is high: whatever stood there, all that is joined shifts an address in
pub begin_run : {A X : Type 0} (t : Table X) (mask : Mask X) (f : A → Bit X) (g : A → Site X) (xs : List A) (c : Seen)
    → ((a : A) → where_joined begin (f a) ≡ calling 8 0 (g a))
    → some_one holds_line (map f xs) ≡ false → ((a : A) → pulls_line t (f a) ≡ false)
    → pulled t mask (bus_of false false (map f xs) c) false true
    ≡ bus_of false true (map (calling 8 0) (map g xs)) (Started ∷ c)
unfolding pulled
begin_run {A} {X} t mask f g xs c starts low quiet =
    let line : some_one (pulls_line t) (map f xs) ≡ false = some_map f (pulls_line t) (λ x. false) quiet xs ∙ no_one xs in
    let w : Bus X = bus_of false true (map f xs) c in
    ap (λ b. edge t mask (not b) (sda_level t (bus_of false false (map f xs) c)) w) low
    ∙ (ap (λ b. cond {A = Bus X} (not b) (cond (sda_level t (bus_of false false (map f xs) c)) (begins w) w) (each fall w)) low
    ∙ (ap (λ b. cond {A = Bus X} (not b) (begins w) w) line
    ∙ ap (λ bs. bus_of false true bs (Started ∷ c))
    (map_step f (λ a. calling 8 0 (g a)) (where_joined begin) starts xs ∙ sym (map_map g (calling 8 0) xs))))

pub call_low : {X : Type 0} (n v a : ℕ) (j e : Bool) (x : X) → holds_line (calling n v (site_of a j e x)) ≡ false
call_low n v a true e x = refl
call_low n v a false e x = refl

call_fall : {X : Type 0} (n v a : ℕ) (j e : Bool) (x : X) → where_joined fall (calling n v (site_of a j e x)) ≡ calling n v
    (site_of a j e x)
call_fall n v a true e x = refl
call_fall n v a false e x = refl

-- then SCL is pulled
pub start_falls : {X : Type 0} (t : Table X) (mask : Mask X) (ss : List (Site X)) (c : Seen)
    → pulled t mask (bus_of false true (map (calling 8 0) ss) c) true true
    ≡ bus_of true true (map (calling 8 0) ss) c
start_falls {X} t mask ss c =
    let w : Bus X = bus_of false true (map (calling 8 0) ss) c in
    let up : scl_level w ≡ true =
    ap not (some_map (calling 8 0) holds_line (λ x. false) (λ s. call_low 8 0 s.addr s.joined s.heard s.state) ss ∙ no_one ss) in
    goes_down t mask w true up
    ∙ ap (λ bs. bus_of true true bs c)
    (map_step (calling 8 0) (calling 8 0) (where_joined fall) (λ s. call_fall 8 0 s.addr s.joined s.heard s.state) ss)

-- from free lines and from within a message
pub free_begin : {X : Type 0} (m : Mode) (a : ℕ) (j e : Bool) (x : X) → where_joined begin (at m (site_of a j e x)) ≡ calling 8 0
    (site_of a j e x)
free_begin m a true e x = refl
free_begin m a false e x = refl

named_low : {X : Type 0} (t : Table X) (byte : ℕ) (s : Site X) (h : Bool)
    → holds (cond {A = Bit X} h (called t s ((byte % 2) == 1)) (stands (other t s) Out 0)) ≡ false
named_low t byte s true = refl
named_low t byte s false = refl

named_free : {X : Type 0} (t : Table X) (byte : ℕ) (s : Site X) (h : Bool)
    → pulls t (cond {A = Bit X} h (called t s ((byte % 2) == 1)) (stands (other t s) Out 0)) ≡ false
named_free t byte s true = refl
named_free t byte s false = refl

call_high : {X : Type 0} (t : Table X) (n v : ℕ) (l : Bool) (a : ℕ) (j e : Bool) (x : X)
    → holds_line (where_joined (λ b. rise t b l) (calling (suc n) v (site_of a j e x))) ≡ false
call_high t zero v l a true e x = and_right _ _ (named_low t (shifted v l) (site_of a true e x)
    (is_named (shifted v l) (site_of a true e x)))
call_high t (suc n) v l a true e x = refl
call_high t n v l a false e x = refl

call_stays : {X : Type 0} (t : Table X) (n v : ℕ) (l : Bool) (a : ℕ) (j e : Bool) (x : X)
    → pulls_line t (where_joined (λ b. rise t b l) (calling (suc n) v (site_of a j e x))) ≡ pulls_line t
    (calling (suc n) v (site_of a j e x))
call_stays t zero v l a true e x = and_right _ _ (named_free t (shifted v l) (site_of a true e x)
    (is_named (shifted v l) (site_of a true e x)))
call_stays t (suc n) v l a true e x = refl
call_stays t n v l a false e x = refl

pub call_calm : {X : Type 0} (t : Table X) (n v : ℕ) (ss : List (Site X)) (h : Bool) → IsCalm t (map (calling (suc n) v) ss) h
call_calm t n v ss h =
    calm_by t (calling (suc n) v) ss h (λ s. call_low (suc n) v s.addr s.joined s.heard s.state)
    (λ s l. call_high t n v l s.addr s.joined s.heard s.state) (λ s l. call_stays t n v l s.addr s.joined s.heard s.state)

pub call_calms : {X : Type 0} (t : Table X) (h : Bool) (hs : List Bool) (v : ℕ) (ss : List (Site X))
    → Calm t (map (calling (suc (length hs)) v) ss) (h ∷ hs)
call_calms t h [] v ss = (call_calm t 0 v ss h, tt)
call_calms t h (k ∷ hs) v ss =
    let l = sda t (map (calling (suc (suc (length hs))) v) ss) h in
    let e : clock_all t (map (calling (suc (suc (length hs))) v) ss) h ≡ map (calling (suc (length hs)) (shifted v l)) ss =
    map_step (calling (suc (suc (length hs))) v) (calling (suc (length hs)) (shifted v l)) _
    (λ s. call_one t (length hs) v l s.addr s.joined s.heard s.state) ss in
    (call_calm t (suc (length hs)) v ss h, subst (λ bs. Calm t bs (k ∷ hs)) (sym e) (call_calms t k hs (shifted v l) ss))

-- the eight bits of an address byte
pub address_bits : {X : Type 0} (t : Table X) (mask : Mask X) (byte : ℕ) → byte < 256 → (low : Bool) (ss : List (Site X)) (c : Seen)
    → bit_steps t mask 0 (bits 8 byte) (bus_of true low (map (calling 8 0) ss) c)
    ≡ came_up (value 0 (levels t (map (calling 8 0) ss) (bits 8 byte)))
    (bus_of true (last_low low (bits 8 byte)) (map (waiting t byte 65 0) ss) (with_levels (bits 8 byte) c))
address_bits {X} t mask byte lt low ss c =
    let v : value 0 (bits 8 byte) ≡ byte = value_bits 8 byte 0 ∙ omega arith in
    let r : ℕ = value 0 (levels t (map (calling 8 0) ss) (bits 8 byte)) in
    let l : Bool = last_low low (bits 8 byte) in
    bits_calm t mask (bits 8 byte) 0 low (map (calling 8 0) ss) c (call_calms t (bit byte 7) (bits 7 byte) 0 ss)
    ∙ (ap (λ ls. came_up r (bus_of true l (run t (map (calling 8 0) ss) (bits 8 byte)) (with_levels ls c)))
    (free_levels t calling (λ m w k s. call_one t m w k s.addr s.joined s.heard s.state) (λ m w xs k. call_sda t (suc m) w xs k)
    (bit byte 7) (bits 7 byte) 0 ss)
    ∙ ap (λ bs. came_up r (bus_of true l bs (with_levels (bits 8 byte) c)))
    (call_run t (bit byte 7) (bits 7 byte) 0 ss ∙ ap (λ n. map (waiting t n 65 0) ss) v))

goes : {X : Type 0} (t : Table X) (mask : Mask X) (byte : ℕ) (ss : List (Site X)) (c : Seen)
    → pulled t mask (bus_of true false (map (waiting t byte 65 0) ss) c) false false
    ≡ wait_bus t byte 65 0 ss (seen_by t byte 0 ss c)
unfolding pulled
goes t mask byte ss c = let_go t byte 65 0 ss c

-- the acknowledge clock, in time
pub address_ack : {X : Type 0} (t : Table X) (mask : Mask X) (byte v : ℕ) (low : Bool) (ss : List (Site X)) (c : Seen)
    → some_one (stays t byte 64) ss ≡ false
    → bit_step t mask v true (bus_of true low (map (waiting t byte 65 0) ss) c) ≡ Acked t byte v ss c
unfolding bit_step
address_ack t mask byte v low ss c quick =
    ap (λ u. closed t mask true (await t v 65 (pulled t mask u false false))) (sets_data t mask (map (waiting t byte 65 0) ss) c low false)
    ∙ (ap (λ u. closed t mask true (await t v 65 u)) (goes t mask byte ss c)
    ∙ ack_clock t mask byte v 64 0 ss c (omega arith) quick (some_one (stays t byte 0) ss) refl)

stay_high : {X : Type 0} (t : Table X) (mask : Mask X) (w : Bus X) (d : Bool)
    → cond {A = Bus X} d (cond d w (begins w)) (cond d (finishes t mask w) w) ≡ w
stay_high t mask w true = refl
stay_high t mask w false = refl

same_clock : {X : Type 0} (t : Table X) (mask : Mask X) (w : Bus X) (up : Bool) → scl_level w ≡ up
    → edge t mask (scl_level w) (sda_level t w) w ≡ w
same_clock {X} t mask w true is =
    ap (λ u. edge t mask u (sda_level t w) w) is
    ∙ (ap (λ u. cond {A = Bus X} u (cond (sda_level t w) (cond (sda_level t w) w (begins w)) (cond (sda_level t w) (finishes t mask w) w))
    (each fall w)) is
    ∙ stay_high t mask w (sda_level t w))
same_clock {X} t mask w false is =
    ap (λ u. edge t mask u (sda_level t w) w) is ∙ ap (λ u. cond {A = Bus X} u (rises t w) w) is

-- letting go what is let go changes nothing
pub stays_free : {X : Type 0} (t : Table X) (mask : Mask X) (ts : List (Bit X)) (c : Seen)
    → pulled t mask (bus_of false false ts c) false false
    ≡ bus_of false false ts c
unfolding pulled
stays_free {X} t mask ts c =
    let w : Bus X = bus_of false false ts c in
    same_clock t mask w (scl_level w) refl

-- and too late: 65 low looks, and both lines are let go
pub address_slow : {X : Type 0} (t : Table X) (mask : Mask X) (byte v : ℕ) (low : Bool) (ss : List (Site X)) (c : Seen)
    → some_one (stays t byte 64) ss ≡ true
    → bit_step t mask v true (bus_of true low (map (waiting t byte 65 0) ss) c)
    ≡ gave_up (late_bus t byte ss (rose (some_one (stays t byte 65) ss) true c))
unfolding bit_step
address_slow {X} t mask byte v low ss c slow =
    ap (λ u. closed t mask true (await t v 65 (pulled t mask u false false))) (sets_data t mask (map (waiting t byte 65 0) ss) c low false)
    ∙ (ap (λ u. closed t mask true (await t v 65 u)) (goes t mask byte ss c)
    ∙ (ap (closed t mask true) (slow_clock t byte v 64 0 ss c (omega arith) slow)
    ∙ ap (λ (b : Bus X). gave_up b) (stays_free t mask (map (late t byte) ss) (rose (some_one (stays t byte 65) ss) true c))))

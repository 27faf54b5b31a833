-- Clocks of a cut read, and pulses, on targets of which nobody holds SCL; and a start with a stop on lines that are let go.
use Rattle.bus_clear.proofs.Cited.{◌≡◌, ℕ, suc, ◌+◌, Bool, true, false, cond, List, ◌∷◌, map, refl, ap, sym, ◌∙◌, not, ◌&&◌, ◌==◌, Table}
use Rattle.bus_clear.proofs.Cited.{Site, Bit, shifted, fall, begin, some_one, pulls_line, sda, where_joined, stop_site, Seen, Level}
use Rattle.bus_clear.proofs.Cited.{Started, Stopped, Mask, Bus, Came, holds_line, scl_level, sda_level, each, await, bus_of, came_up}
use Rattle.bus_clear.proofs.Cited.{calling, STOP_LOOKS, released, rejoin, free, some_map, no_one, IsCalm, risen, goes_down, sets_data}
use Rattle.bus_clear.proofs.Cited.{looks_up, stop_run, stays_free, released_out, MOST_PULSES, start_stop, clearing, Free, SclHeld, map-id}
use Rattle.wire_spec.specs.Roots.{clock_all}
use Rattle.wire_spec.specs.Bus.{begins, edge, pulled, closed, bit_step}
use Rattle.wire_spec.proofs.Calm.{goes_up, up_calm, bit_calm}
use Rattle.wire_spec.proofs.StartClocks.{call_low}
use Rattle.bus_clear.specs.Pulls.{cut_rise, cut_clock, pulse, clear_from, clear_pulls}
use Rattle.std.proofs.lemmas.Bool.{not-true}
use Rattle.wire_spec.proofs.LateStops.{finish_call}
use Rattle.wire_spec.proofs.Address.{call_quiet}

-- ---- one clock
pub rise_calm : {X : Type 0} (t : Table X) (mask : Mask X) (h low : Bool) (ts : List (Bit X)) (c : Seen) → IsCalm t ts h
    → cut_rise t mask h (bus_of true low ts c) ≡ bus_of false (not h) (risen t ts h) (Level (sda t ts h) ∷ c)
unfolding cut_rise
rise_calm {X} t mask h low ts c calm =
    ap (λ u. (await t 0 STOP_LOOKS (pulled t mask u false (not h))).bus) (sets_data t mask ts c low (not h))
    ∙ (ap (λ u. (await t 0 STOP_LOOKS u).bus) (goes_up t mask ts c (not h) calm.low)
    ∙ ap (λ (d : Came X). d.bus) (up_calm t 0 254 h ts c calm))

-- after its rise a clock falls
falls_by : {X : Type 0} (t : Table X) (mask : Mask X) (h : Bool) (ts : List (Bit X)) (c : Seen) → IsCalm t ts h
    → pulled t mask (bus_of false (not h) (risen t ts h) (Level (sda t ts h) ∷ c)) true (not h)
    ≡ bus_of true (not h) (clock_all t ts h) (Level (sda t ts h) ∷ c)
unfolding bit_step
falls_by {X} t mask h ts c calm =
    let w : Bus X = bus_of true false ts c in
    let l : Bool = sda t ts h in
    let e : bit_step t mask 0 h w ≡ closed t mask h (came_up (shifted 0 l) (bus_of false (not h) (risen t ts h) (Level l ∷ c))) =
    ap (λ u. closed t mask h (await t 0 65 (pulled t mask u false (not h)))) (sets_data t mask ts c false (not h))
    ∙ (ap (λ u. closed t mask h (await t 0 65 u)) (goes_up t mask ts c (not h) calm.low)
    ∙ ap (closed t mask h) (up_calm t 0 64 h ts c calm)) in
    ap (λ (d : Came X). d.bus) (sym e ∙ bit_calm t mask 0 h false ts c calm)

-- and what falls there are the targets of a whole clock
pub risen_falls : {X : Type 0} (t : Table X) (mask : Mask X) (h : Bool) (ts : List (Bit X)) (c : Seen) → IsCalm t ts h
    → pulled t mask (bus_of false (not h) (risen t ts h) c) true (not h) ≡ bus_of true (not h) (clock_all t ts h) c
risen_falls {X} t mask h ts c calm =
    let w : Seen → Bus X = λ d. bus_of false (not h) (risen t ts h) d in
    let up : scl_level (w c) ≡ true = ap not calm.high in
    let e : map (where_joined fall) (risen t ts h) ≡ clock_all t ts h =
    ap (λ (b : Bus X). b.targets) (sym (goes_down t mask (w (Level (sda t ts h) ∷ c)) (not h) up) ∙ falls_by t mask h ts c calm) in
    goes_down t mask (w c) (not h) up ∙ ap (λ bs. bus_of true (not h) bs c) e

pub clock_calm : {X : Type 0} (t : Table X) (mask : Mask X) (h low : Bool) (ts : List (Bit X)) (c : Seen) → IsCalm t ts h
    → cut_clock t mask h (bus_of true low ts c) ≡ bus_of true (not h) (clock_all t ts h) (Level (sda t ts h) ∷ c)
unfolding cut_clock
clock_calm t mask h low ts c calm =
    ap (λ u. pulled t mask u true (not h)) (rise_calm t mask h low ts c calm) ∙ risen_falls t mask h ts (Level (sda t ts h) ∷ c) calm

-- SCL is let go after a fall, with SDA let go: a pulse
pub pulse_calm : {X : Type 0} (t : Table X) (mask : Mask X) (w : Bus X) (ts : List (Bit X)) (c : Seen)
    → pulled t mask w true false ≡ bus_of true false ts c → IsCalm t ts true
    → pulse t mask w ≡ came_up (shifted 0 (sda t ts true)) (bus_of false false (risen t ts true) (Level (sda t ts true) ∷ c))
unfolding pulse
pulse_calm t mask w ts c fell calm =
    ap (λ u. await t 0 STOP_LOOKS (pulled t mask u false false)) fell
    ∙ (ap (await t 0 STOP_LOOKS) (goes_up t mask ts c false calm.low) ∙ up_calm t 0 254 true ts c calm)

-- ---- a start and a stop
quiet_up : (a : Bool) → (true && not a) ≡ true → a ≡ false
quiet_up true is = cc
quiet_up false is = refl

begin_all : {X : Type 0} (t : Table X) (mask : Mask X) (bs : List (Bit X)) (c : Seen)
    → some_one holds_line bs ≡ false → some_one (pulls_line t) bs ≡ false
    → pulled t mask (bus_of false false bs c) false true ≡ bus_of false true (map (where_joined begin) bs) (Started ∷ c)
unfolding pulled
begin_all {X} t mask bs c low line =
    let w : Bus X = bus_of false true bs c in
    ap (λ b. edge t mask (not b) (sda_level t (bus_of false false bs c)) w) low
    ∙ (ap (λ b. cond {A = Bus X} (not b) (cond (sda_level t (bus_of false false bs c)) (begins w) w) (each fall w)) low
    ∙ ap (λ b. cond {A = Bus X} (not b) (begins w) w) line)

-- where the lines are high, a start and a stop are a stop of who is joined
pub start_stops : {X : Type 0} (t : Table X) (mask : Mask X) (bs : List (Bit X)) (gs : List (Site X)) (c : Seen)
    → map (where_joined begin) bs ≡ map (calling 8 0) gs
    → scl_level (bus_of false false bs c) ≡ true → sda_level t (bus_of false false bs c) ≡ true
    → start_stop t mask (bus_of false false bs c) ≡ free (rejoin mask (map (stop_site t) gs)) (Stopped ∷ Started ∷ c)
start_stops {X} t mask bs gs c starts up high =
    let low : some_one holds_line (map (calling 8 0) gs) ≡ false =
    some_map (calling 8 0) holds_line (λ x. false) (λ (s : Site X). call_low 8 0 s.addr s.joined s.heard s.state) gs ∙ no_one gs in
    ap (λ u. pulled t mask u false false) (begin_all t mask bs c (not-true _ up) (quiet_up _ high)
    ∙ ap (λ us. bus_of false true us (Started ∷ c)) starts)
    ∙ (stop_run t mask (calling 8 0) (λ (s : Site X). s) gs (Started ∷ c) (λ s. finish_call t s.addr s.joined s.heard s.state) low
    (λ s. call_quiet t 8 0 s.addr s.joined s.heard s.state)
    ∙ (ap (λ xs. bus_of false false (map released (rejoin mask (map (stop_site t) xs))) (Stopped ∷ Started ∷ c)) (map-id gs)
    ∙ ap (λ us. bus_of false false us (Stopped ∷ Started ∷ c)) (released_out (rejoin mask (map (stop_site t) gs)))))

-- ---- bus clear from lines that are let go, where SCL is high
let_by : {X : Type 0} (t : Table X) (mask : Mask X) (bs : List (Bit X)) (c : Seen) (level : Bool)
    → scl_level (bus_of false false bs c) ≡ true → sda_level t (bus_of false false bs c) ≡ level
    → await t 0 STOP_LOOKS (pulled t mask (bus_of false false bs c) false false) ≡ came_up (shifted 0 level) (bus_of false false bs c)
let_by {X} t mask bs c level up is =
    let w : Bus X = bus_of false false bs c in
    ap (await t 0 STOP_LOOKS) (stays_free t mask bs c)
    ∙ (looks_up t 0 254 w up ∙ ap (λ l. came_up (shifted 0 l) w) is)

pub level_one : (level : Bool) → (shifted 0 level == 1) ≡ level
level_one true = refl
level_one false = refl

pub clears_from : {X : Type 0} (t : Table X) (mask : Mask X) (bs : List (Bit X)) (c : Seen) (level : Bool)
    → scl_level (bus_of false false bs c) ≡ true → sda_level t (bus_of false false bs c) ≡ level
    → clear_pulls t mask (bus_of false false bs c) ≡ clear_from t mask level MOST_PULSES 0 (bus_of false false bs c)
unfolding clear_pulls
clears_from {X} t mask bs c level up is =
    let w : Bus X = bus_of false false bs c in
    ap (λ (d : Came X). cond d.up (clear_from t mask (d.read == 1) MOST_PULSES 0 d.bus) (clearing (SclHeld 0) d.bus))
    (let_by t mask bs c level up is)
    ∙ ap (λ h. clear_from t mask h MOST_PULSES 0 w) (level_one level)

pub pulses_on : {X : Type 0} (t : Table X) (mask : Mask X) (left made : ℕ) (w w1 : Bus X) (level : Bool)
    → pulse t mask w ≡ came_up (shifted 0 level) w1
    → clear_from t mask false (suc left) made w ≡ clear_from t mask level left (made + 1) w1
unfolding clear_from
pulses_on {X} t mask left made w w1 level is =
    ap (λ (d : Came X). cond d.up (clear_from t mask (d.read == 1) left (made + 1) d.bus) (clearing (SclHeld made) d.bus)) is
    ∙ ap (λ h. clear_from t mask h left (made + 1) w1) (level_one level)

pub ends_free : {X : Type 0} (t : Table X) (mask : Mask X) (left made : ℕ) (w w1 : Bus X) (level : Bool) → level ≡ true
    → start_stop t mask w ≡ w1 → clear_from t mask level left made w ≡ clearing (Free made) w1
unfolding clear_from
ends_free t mask left made w w1 true is e = ap (clearing (Free made)) e
ends_free t mask left made w w1 false is e = cc

-- A start from free lines, and a repeated one within a message: both come to an address that all that is joined shifts in. A stop.
use Rattle.wire_spec.proofs.Cited.{◌≡◌, ℕ, Bool, true, false, List, map, refl, ap, sym, ◌∷◌, ◌∙◌, Table, Mode, Out, In, site_of, Site, Bit}
use Rattle.wire_spec.proofs.Cited.{shifted, rise, begin, finish, some_one, pulls_line, sda, where_joined, at, stop_site, Mask, Seen, Level, Started, Stopped}
use Rattle.wire_spec.proofs.Cited.{Bus, Came, holds_line, await, bus_of, came_up, calling, released, rejoin, stopped}
use Rattle.wire_spec.proofs.Cited.{within, within_address}
use Rattle.wire_spec.specs.Bus.{pulled}
use Rattle.wire_spec.specs.Calls.{start_pulls, let_both, stop_pulls, repeated_start}
use Rattle.wire_spec.proofs.Roots.{map_map, some_map, no_one, free_sda}
use Rattle.wire_spec.proofs.Calm.{IsCalm, risen, goes_up, sets_data, up_calm}
use Rattle.wire_spec.proofs.Rests.{calm_by, take_calm, at_low}
use Rattle.wire_spec.proofs.Stops.{stop_run}
use Rattle.wire_spec.proofs.StartClocks.{begin_run, start_falls, free_begin}
use mathlib.Core.List.{map-id}

out_free : {X : Type 0} (t : Table X) (a : ℕ) (j e : Bool) (x : X) → pulls_line t (at Out (site_of a j e x)) ≡ false
out_free t a true true x = refl
out_free t a true false x = refl
out_free t a false e x = refl

out_high : {X : Type 0} (t : Table X) (l : Bool) (a : ℕ) (j e : Bool) (x : X)
    → holds_line (where_joined (λ b. rise t b l) (at Out (site_of a j e x))) ≡ false
out_high t l a true true x = refl
out_high t l a true false x = refl
out_high t l a false e x = refl

out_stays : {X : Type 0} (t : Table X) (l : Bool) (a : ℕ) (j e : Bool) (x : X)
    → pulls_line t (where_joined (λ b. rise t b l) (at Out (site_of a j e x))) ≡ pulls_line t (at Out (site_of a j e x))
out_stays t l a true true x = refl
out_stays t l a true false x = refl
out_stays t l a false e x = refl

pub out_calm : {X : Type 0} (t : Table X) (ss : List (Site X)) (h : Bool) → IsCalm t (map (at Out) ss) h
out_calm t ss h =
    calm_by t (at Out) ss h (λ s. at_low Out s.addr s.joined s.heard s.state) (λ s l. out_high t l s.addr s.joined s.heard s.state)
    (λ s l. out_stays t l s.addr s.joined s.heard s.state)

-- from free lines
pub free_start : {X : Type 0} (t : Table X) (mask : Mask X) (ss : List (Site X)) (c : Seen)
    → start_pulls t mask (bus_of false false (map (at Out) ss) c)
    ≡ bus_of true true (map (calling 8 0) ss) (Started ∷ c)
free_start {X} t mask ss c =
    let low : some_one holds_line (map (at Out) ss) ≡ false =
    some_map (at Out) holds_line (λ x. false) (λ s. at_low Out s.addr s.joined s.heard s.state) ss ∙ no_one ss in
    ap (λ u. pulled t mask u true true) (begin_run t mask (at Out) (λ (s : Site X). s) ss c
    (λ s. free_begin Out s.addr s.joined s.heard s.state) low
    (λ s. out_free t s.addr s.joined s.heard s.state))
    ∙ (ap (λ xs. pulled t mask (bus_of false true (map (calling 8 0) xs) (Started ∷ c)) true true) (map-id ss)
    ∙ start_falls t mask ss (Started ∷ c))

pub both_high : {X : Type 0} (t : Table X) (mask : Mask X) (m : Mode) (low : Bool) (ss : List (Site X)) (c : Seen)
    → IsCalm t (map (at m) ss) true
    → let_both t mask (bus_of true low (map (at m) ss) c)
    ≡ came_up (shifted 0 (sda t (map (at m) ss) true)) (bus_of false false (risen t (map (at m) ss) true)
    (Level (sda t (map (at m) ss) true) ∷ c))
both_high {X} t mask m low ss c calm =
    ap (λ u. await t 0 65 (pulled t mask u false false)) (sets_data t mask (map (at m) ss) c low false)
    ∙ (ap (await t 0 65) (goes_up t mask (map (at m) ss) c false calm.low)
    ∙ up_calm t 0 64 true (map (at m) ss) c calm)

pub again_start : {X : Type 0} (t : Table X) (mask : Mask X) (m : Mode) (low : Bool) (ss : List (Site X)) (c : Seen)
    → IsCalm t (map (at m) ss) true
    → ((s : Site X) (l : Bool) → where_joined begin (where_joined (λ b. rise t b l) (at m s)) ≡ calling 8 0 s)
    → ((s : Site X) (l : Bool) → pulls_line t (where_joined (λ b. rise t b l) (at m s)) ≡ false)
    → repeated_start t mask (within m low ss c) ≡ (true, within_address 8 0 true ss (Started ∷ Level true ∷ c))
again_start {X} t mask m low ss c calm starts free =
    let l : Bool = sda t (map (at m) ss) true in
    let g : Site X → Bit X = λ (s : Site X). where_joined (λ b. rise t b l) (at m s) in
    let e : risen t (map (at m) ss) true ≡ map g ss = map_map (at m) (where_joined (λ b. rise t b l)) ss in
    let high : some_one holds_line (map g ss) ≡ false = ap (some_one holds_line) (sym e) ∙ calm.high in
    let up : l ≡ true = sym calm.stays ∙ (ap (λ bs. sda t bs true) e ∙ free_sda t g (λ s. free s l) ss true) in
    let d : Seen = Level l ∷ c in
    ap (λ (k : Came X). (k.up, start_pulls t mask k.bus)) (both_high t mask m low ss c calm)
    ∙ (ap (λ bs. (true, start_pulls t mask (bus_of false false bs d))) e
    ∙ (ap (λ (u : Bus X). (true, pulled t mask u true true)) (begin_run t mask g (λ (s : Site X). s) ss d (λ s. starts s l) high
    (λ s. free s l))
    ∙ (ap (λ xs. (true, pulled t mask (bus_of false true (map (calling 8 0) xs) (Started ∷ d)) true true)) (map-id ss)
    ∙ (ap (λ (u : Bus X). (true, u)) (start_falls t mask ss (Started ∷ d))
    ∙ ap (λ k. (true, within_address 8 0 true ss (Started ∷ Level k ∷ c))) up))))

-- after a byte of a write, and where nobody is in the message any more
take_begin : {X : Type 0} (t : Table X) (l : Bool) (a : ℕ) (j e : Bool) (x : X)
    → where_joined begin (where_joined (λ b. rise t b l) (at (In false 8 0) (site_of a j e x))) ≡ calling 8 0 (site_of a j e x)
take_begin t l a true true x = refl
take_begin t l a true false x = refl
take_begin t l a false e x = refl

take_free : {X : Type 0} (t : Table X) (l : Bool) (a : ℕ) (j e : Bool) (x : X)
    → pulls_line t (where_joined (λ b. rise t b l) (at (In false 8 0) (site_of a j e x))) ≡ false
take_free t l a true true x = refl
take_free t l a true false x = refl
take_free t l a false e x = refl

out_begin : {X : Type 0} (t : Table X) (l : Bool) (a : ℕ) (j e : Bool) (x : X)
    → where_joined begin (where_joined (λ b. rise t b l) (at Out (site_of a j e x))) ≡ calling 8 0 (site_of a j e x)
out_begin t l a true true x = refl
out_begin t l a true false x = refl
out_begin t l a false e x = refl

pub start_after_write : {X : Type 0} (t : Table X) (mask : Mask X) (low : Bool) (ss : List (Site X)) (c : Seen)
    → repeated_start t mask (within (In false 8 0) low ss c) ≡ (true, within_address 8 0 true ss (Started ∷ Level true ∷ c))
start_after_write t mask low ss c =
    again_start t mask (In false 8 0) low ss c (take_calm t 7 0 ss true) (λ s l. take_begin t l s.addr s.joined s.heard s.state)
    (λ s l. take_free t l s.addr s.joined s.heard s.state)

pub start_after_out : {X : Type 0} (t : Table X) (mask : Mask X) (low : Bool) (ss : List (Site X)) (c : Seen)
    → repeated_start t mask (within Out low ss c) ≡ (true, within_address 8 0 true ss (Started ∷ Level true ∷ c))
start_after_out t mask low ss c =
    again_start t mask Out low ss c (out_calm t ss true) (λ s l. out_begin t l s.addr s.joined s.heard s.state)
    (λ s l. out_stays t l s.addr s.joined s.heard s.state ∙ out_free t s.addr s.joined s.heard s.state)

stop_by : {X : Type 0} (t : Table X) (mask : Mask X) (m : Mode) (low : Bool) (ss : List (Site X)) (c : Seen)
    → IsCalm t (map (at m) ss) false
    → ((s : Site X) (l : Bool) → where_joined (finish t) (where_joined (λ b. rise t b l) (at m s)) ≡ released (stop_site t s))
    → ((s : Site X) (l : Bool) → pulls_line t (where_joined (λ b. rise t b l) (at m s)) ≡ false)
    → stop_pulls t mask (bus_of true low (map (at m) ss) c)
    ≡ (true, bus_of false false (map released (rejoin mask (map (stop_site t) ss))) (Stopped ∷ Level false ∷ c))
stop_by {X} t mask m low ss c calm ends free =
    let l : Bool = sda t (map (at m) ss) false in
    let g : Site X → Bit X = λ (s : Site X). where_joined (λ b. rise t b l) (at m s) in
    let e : risen t (map (at m) ss) false ≡ map g ss = map_map (at m) (where_joined (λ b. rise t b l)) ss in
    let high : some_one holds_line (map g ss) ≡ false = ap (some_one holds_line) (sym e) ∙ calm.high in
    ap (λ u. stopped t mask (await t 0 255 (pulled t mask u false true))) (sets_data t mask (map (at m) ss) c low true)
    ∙ (ap (λ u. stopped t mask (await t 0 255 u)) (goes_up t mask (map (at m) ss) c true calm.low)
    ∙ (ap (stopped t mask) (up_calm t 0 254 false (map (at m) ss) c calm)
    ∙ (ap (λ bs. (true, pulled t mask (bus_of false true bs (Level false ∷ c)) false false)) e
    ∙ (ap (λ (u : Bus X). (true, u)) (stop_run t mask g (λ (s : Site X). s) ss (Level false ∷ c) (λ s. ends s l) high (λ s. free s l))
    ∙ ap (λ xs. (true, bus_of false false (map released (rejoin mask (map (stop_site t) xs))) (Stopped ∷ Level false ∷ c))) (map-id ss)))))

take_finish : {X : Type 0} (t : Table X) (l : Bool) (a : ℕ) (j e : Bool) (x : X)
    → where_joined (finish t) (where_joined (λ b. rise t b l) (at (In false 8 0) (site_of a j e x))) ≡ released
    (stop_site t (site_of a j e x))
take_finish t l a true true x = refl
take_finish t l a true false x = refl
take_finish t l a false e x = refl

out_finish : {X : Type 0} (t : Table X) (l : Bool) (a : ℕ) (j e : Bool) (x : X)
    → where_joined (finish t) (where_joined (λ b. rise t b l) (at Out (site_of a j e x))) ≡ released (stop_site t (site_of a j e x))
out_finish t l a true true x = refl
out_finish t l a true false x = refl
out_finish t l a false e x = refl

pub stop_after_write : {X : Type 0} (t : Table X) (mask : Mask X) (low : Bool) (ss : List (Site X)) (c : Seen)
    → stop_pulls t mask (bus_of true low (map (at (In false 8 0)) ss) c)
    ≡ (true, bus_of false false (map released (rejoin mask (map (stop_site t) ss))) (Stopped ∷ Level false ∷ c))
stop_after_write t mask low ss c =
    stop_by t mask (In false 8 0) low ss c (take_calm t 7 0 ss false) (λ s l. take_finish t l s.addr s.joined s.heard s.state)
    (λ s l. take_free t l s.addr s.joined s.heard s.state)

pub stop_after_out : {X : Type 0} (t : Table X) (mask : Mask X) (low : Bool) (ss : List (Site X)) (c : Seen)
    → stop_pulls t mask (bus_of true low (map (at Out) ss) c)
    ≡ (true, bus_of false false (map released (rejoin mask (map (stop_site t) ss))) (Stopped ∷ Level false ∷ c))
stop_after_out t mask low ss c =
    stop_by t mask Out low ss c (out_calm t ss false) (λ s l. out_finish t l s.addr s.joined s.heard s.state)
    (λ s l. out_stays t l s.addr s.joined s.heard s.state ∙ out_free t s.addr s.joined s.heard s.state)

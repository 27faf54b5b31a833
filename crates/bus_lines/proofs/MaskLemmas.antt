-- Who is joined by the places of a board is who is joined by its mask.
use Rattle.bus_lines.proofs.Cited.{◌≡◌, ℕ, zero, suc, ◌+◌, ◌-◌, ◌<◌, ◌≤◌, ◌==◌, Bool, true, false, ◌&&◌, cond, List, [], ◌∷◌, ◌++◌, length}
use Rattle.bus_lines.proofs.Cited.{map, Some, refl, sym, ap, ◌∙◌, arith, not, is_some, slice_get, replicate, if◌then◌else◌, list_all}
use Rattle.bus_lines.proofs.Cited.{option_map_or, length-map, length-append, nat_tests, there, map_at, MuxSpec, BoardView, DeviceView, Hop}
use Rattle.bus_lines.proofs.Cited.{root_of, ChipView, Site, Bit, rejoin_from, rejoined, NodeState, Chip, Device, chip_by, chips_in}
use Rattle.bus_lines.proofs.Cited.{states_of, world_of, mask_of, mux_place, device_place, places_of, is_chip, kinds_of, states_on}
use Rattle.bus_lines.proofs.Cited.{node_opens, opens_at, joins, joins_by, read_anew}
use Rattle.std.specs.Prelude.{nat_lt}
use Rattle.std.proofs.lemmas.List.{length-replicate}
use Rattle.i2c_base.proofs.ListLemmas.{get_front}
use Rattle.i2c_spec.specs.Tree.{hops}
use Rattle.i2c_spec.specs.Chips.{is_open}
use Rattle.i2c_spec.specs.World.{World, opens_hop, joins_chip, joins_device}
use mathlib.Core.Bool.{and_assoc}
use Rattle.wire_spec.proofs.SiteLemmas.{all_same}

-- ---- which channels are open
abbrev opens_in : ℕ → List NodeState → ℕ → Bool
opens_in ch nodes i = option_map_or (node_opens ch) (slice_get nodes i) false

abbrev opens_chip : ℕ → List (Site ChipView) → ℕ → Bool
opens_chip ch cs i = option_map_or (λ c. is_open c ch) (slice_get (states_of cs) i) false

abbrev pub Kinds : ℕ → ℕ → List NodeState → Type 0
Kinds n m nodes = map is_chip nodes ≡ replicate n true ++ replicate m false

-- no device opens one
none_open : (ch m i : ℕ) (nodes : List NodeState) → Kinds 0 m nodes → opens_in ch nodes i ≡ false
none_open ch m i [] is = refl
none_open ch zero i (x ∷ xs) is = let g : (is_chip x ∷ map is_chip xs) ≡ [] = is in cc
none_open ch (suc m) zero (Chip x ∷ xs) is = let g : (true ∷ map is_chip xs) ≡ (false ∷ replicate m false) = is in cc
none_open ch (suc m) zero (Device x ∷ xs) is = refl
none_open ch (suc m) (suc i) (x ∷ xs) is =
    let g : (is_chip x ∷ map is_chip xs) ≡ (false ∷ replicate m false) = is in
    let e : map is_chip xs ≡ replicate m false = cc in
    none_open ch m i xs e

opens_cons : (ch : ℕ) (s : Site NodeState) (x : NodeState) (nodes : List NodeState) (rest : List (Site ChipView)) (n m i : ℕ)
    → Kinds n m (x ∷ nodes) → ((n m j : ℕ) → Kinds n m nodes → opens_in ch nodes j ≡ opens_chip ch rest j)
    → opens_in ch (x ∷ nodes) i ≡ opens_chip ch (chip_by s x rest) i
opens_cons ch s (Chip x) nodes rest n m zero is same = refl
opens_cons ch s (Chip x) nodes rest zero zero (suc i) is same = let g : (true ∷ map is_chip nodes) ≡ [] = is in cc
opens_cons ch s (Chip x) nodes rest zero (suc m) (suc i) is same =
    let g : (true ∷ map is_chip nodes) ≡ (false ∷ replicate m false) = is in cc
opens_cons ch s (Chip x) nodes rest (suc n) m (suc i) is same =
    let g : (true ∷ map is_chip nodes) ≡ (true ∷ (replicate n true ++ replicate m false)) = is in
    let e : map is_chip nodes ≡ replicate n true ++ replicate m false = cc in
    same n m i e
opens_cons ch s (Device x) nodes rest zero zero i is same = let g : (false ∷ map is_chip nodes) ≡ [] = is in cc
opens_cons ch s (Device x) nodes rest (suc n) m i is same =
    let g : (false ∷ map is_chip nodes) ≡ (true ∷ (replicate n true ++ replicate m false)) = is in cc
opens_cons ch s (Device x) nodes rest zero (suc m) zero is same =
    let g : (false ∷ map is_chip nodes) ≡ (false ∷ replicate m false) = is in
    let e : map is_chip nodes ≡ replicate m false = cc in
    sym (none_open ch m 0 nodes e) ∙ same 0 m 0 e
opens_cons ch s (Device x) nodes rest zero (suc m) (suc i) is same =
    let g : (false ∷ map is_chip nodes) ≡ (false ∷ replicate m false) = is in
    let e : map is_chip nodes ≡ replicate m false = cc in
    none_open ch m i nodes e ∙ sym (none_open ch m (suc i) nodes e) ∙ same 0 m (suc i) e

abbrev pub sites_on : List (Bit NodeState) → List (Site NodeState)
sites_on bs = map {A = Bit NodeState} (λ (b : Bit NodeState). b.site) bs

opens_same : (ch : ℕ) (bs : List (Bit NodeState)) (n m i : ℕ) → Kinds n m (states_on bs)
    → opens_in ch (states_on bs) i ≡ opens_chip ch (chips_in (sites_on bs)) i
opens_same ch [] n m i is = refl
opens_same ch (b ∷ bs) n m i is = opens_cons ch b.site b.site.state (states_on bs) (chips_in (sites_on bs)) n m i is (opens_same ch bs)

-- ---- how many chips there are
chips_cons : (s : Site NodeState) (x : NodeState) (nodes : List NodeState) (rest : List (Site ChipView)) (n m : ℕ)
    → Kinds n m (x ∷ nodes) → ((n m : ℕ) → Kinds n m nodes → length rest ≡ n) → length (chip_by s x rest) ≡ n
chips_cons s (Chip x) nodes rest zero zero is same = let g : (true ∷ map is_chip nodes) ≡ [] = is in cc
chips_cons s (Chip x) nodes rest zero (suc m) is same = let g : (true ∷ map is_chip nodes) ≡ (false ∷ replicate m false) = is in cc
chips_cons s (Chip x) nodes rest (suc n) m is same =
    let g : (true ∷ map is_chip nodes) ≡ (true ∷ (replicate n true ++ replicate m false)) = is in
    let e : map is_chip nodes ≡ replicate n true ++ replicate m false = cc in
    ap suc (same n m e)
chips_cons s (Device x) nodes rest zero zero is same = let g : (false ∷ map is_chip nodes) ≡ [] = is in cc
chips_cons s (Device x) nodes rest zero (suc m) is same =
    let g : (false ∷ map is_chip nodes) ≡ (false ∷ replicate m false) = is in
    let e : map is_chip nodes ≡ replicate m false = cc in
    same 0 m e
chips_cons s (Device x) nodes rest (suc n) m is same =
    let g : (false ∷ map is_chip nodes) ≡ (true ∷ (replicate n true ++ replicate m false)) = is in cc

no_chips : (n m : ℕ) → Kinds n m [] → 0 ≡ n
no_chips zero m is = refl
no_chips (suc n) m is = let g : [] ≡ (true ∷ (replicate n true ++ replicate m false)) = is in cc

pub chips_count : (bs : List (Bit NodeState)) (n m : ℕ) → Kinds n m (states_on bs) → length (chips_in (sites_on bs)) ≡ n
chips_count [] n m is = no_chips n m is
chips_count (b ∷ bs) n m is = chips_cons b.site b.site.state (states_on bs) (chips_in (sites_on bs)) n m is (chips_count bs)

pub get_right : {A : Type 0} (xs ys : List A) (k : ℕ) → length xs ≤ k → slice_get (xs ++ ys) k ≡ slice_get ys (k - length xs)
get_right [] ys k le = let e : k ≡ k - 0 = omega arith in ap (slice_get ys) e
get_right (x ∷ xs) ys zero le = absurd (omega (arith, le))
get_right (x ∷ xs) ys (suc k) le =
    let e : k - length xs ≡ suc k - suc (length xs) = omega arith in
    get_right xs ys k (omega (arith, le)) ∙ ap (slice_get ys) e

kept_where : (w : Bool) (p : Hop → Bool) (hs : List Hop) → (w && list_all p (cond w hs [])) ≡ (w && list_all p hs)
kept_where true p hs = refl
kept_where false p hs = refl

joins_mux : (w : World) (nodes : List NodeState) (m : ℕ) (x : MuxSpec) → slice_get w.board.muxes m ≡ Some x
    → ((h : Hop) → opens_at nodes h ≡ opens_hop w.chips h) → joins nodes (mux_place w.board w.root x) ≡ joins_chip w m
joins_mux w nodes m x is same =
    kept_where ((not x.absent && is_some x.addr) && (root_of w.board x.bus == w.root)) (opens_at nodes) (hops w.board x.bus)
    ∙ ap (λ t. ((not x.absent && is_some x.addr) && (root_of w.board x.bus == w.root)) && t)
    (all_same (opens_at nodes) (opens_hop w.chips) same (hops w.board x.bus))
    ∙ rw is (and_assoc (not x.absent && is_some x.addr) (root_of w.board x.bus == w.root) (list_all (opens_hop w.chips)
    (hops w.board x.bus)))

joins_dev : (w : World) (nodes : List NodeState) (d : ℕ) (x : DeviceView) → slice_get w.board.devices d ≡ Some x
    → ((h : Hop) → opens_at nodes h ≡ opens_hop w.chips h) → joins nodes (device_place w.board w.root x) ≡ joins_device w d
joins_dev w nodes d x is same =
    kept_where (root_of w.board x.bus == w.root) (opens_at nodes) (hops w.board x.bus)
    ∙ ap (λ t. (root_of w.board x.bus == w.root) && t) (all_same (opens_at nodes) (opens_hop w.chips) same (hops w.board x.bus))
    ∙ rw is refl

module _ (b : BoardView) (r : ℕ) (bs : List (Bit NodeState)) (is : map is_chip (states_on bs) ≡ kinds_of b) where
  abbrev w : World
  w = world_of b r false (sites_on bs)

  abbrev nodes : List NodeState
  nodes = states_on bs

  abbrev chips : ℕ
  chips = length (chips_in (sites_on bs))

  same : (h : Hop) → opens_at nodes h ≡ opens_hop w.chips h
  same h = opens_same h.channel bs (length b.muxes) (length b.devices) h.mux is

  masked_mux : (k : ℕ) → k < length b.muxes → joins_by (places_of b r) nodes k ≡ joins_chip w k
  masked_mux k lt =
      let x = there b.muxes k lt in
      let e : length (map (mux_place b r) b.muxes) ≡ length b.muxes = length-map b.muxes (mux_place b r) in
      ap (λ o. option_map_or (joins nodes) o false)
      (get_front (map (mux_place b r) b.muxes) (map (device_place b r) b.devices) k (omega (arith, lt, e))
      ∙ map_at (mux_place b r) b.muxes k x.0 x.1)
      ∙ joins_mux w nodes k x.0 x.1 same

  masked_dev : (k : ℕ) → length b.muxes ≤ k → k < length b.muxes + length b.devices
      → joins_by (places_of b r) nodes k ≡ joins_device w (k - length b.muxes)
  masked_dev k le lt =
      let x = there b.devices (k - length b.muxes) (omega (arith, le, lt)) in
      let e : length (map (mux_place b r) b.muxes) ≡ length b.muxes = length-map b.muxes (mux_place b r) in
      ap (λ o. option_map_or (joins nodes) o false)
      (get_right (map (mux_place b r) b.muxes) (map (device_place b r) b.devices) k (omega (arith, le, e))
      ∙ ap (λ n. slice_get (map (device_place b r) b.devices) (k - n)) e
      ∙ map_at (device_place b r) b.devices (k - length b.muxes) x.0 x.1)
      ∙ joins_dev w nodes (k - length b.muxes) x.0 x.1 same

  masked_by : (k : ℕ) (t : Bool) → nat_lt k chips ≡ t → k < length b.muxes + length b.devices
      → joins_by (places_of b r) nodes k ≡ mask_of b r (sites_on bs) k
  masked_by k true test lt =
      let count = chips_count bs (length b.muxes) (length b.devices) is in
      let low : k < chips = grind (arith, nat_tests, test) in
      masked_mux k (omega (arith, low, count)) ∙ ap (λ u. if u then joins_chip w k else joins_device w (k - chips)) (sym test)
  masked_by k false test lt =
      let count = chips_count bs (length b.muxes) (length b.devices) is in
      let high : chips ≤ k = grind (arith, nat_tests, test) in
      masked_dev k (omega (arith, high, count)) lt
      ∙ ap (λ n. joins_device w (k - n)) (sym count)
      ∙ ap (λ u. if u then joins_chip w k else joins_device w (k - chips)) (sym test)

  masked : (k : ℕ) → k < length b.muxes + length b.devices → joins_by (places_of b r) nodes k ≡ mask_of b r (sites_on bs) k
  masked k lt = masked_by k (nat_lt k chips) refl lt

  bits_count : length bs ≡ length b.muxes + length b.devices
  bits_count =
      sym (length-map bs (λ (c : Bit NodeState). c.site.state)) ∙ sym (length-map nodes is_chip) ∙ ap length is
      ∙ length-append (replicate (length b.muxes) true) (replicate (length b.devices) false)
      ∙ ap (λ n. n + length (replicate (length b.devices) false)) (length-replicate (length b.muxes) true)
      ∙ ap (λ n. length b.muxes + n) (length-replicate (length b.devices) false)

rejoin_same : (f g : ℕ → Bool) (k : ℕ) (bs : List (Bit NodeState)) → ((j : ℕ) → j < k + length bs → f j ≡ g j)
    → rejoin_from f k bs ≡ rejoin_from g k bs
rejoin_same f g k [] same = refl
rejoin_same f g k (b ∷ bs) same =
    ap (λ j. read_anew j b ∷ rejoin_from f (k + 1) bs) (same k (omega arith))
    ∙ ap (λ cs. read_anew (g k) b ∷ cs) (rejoin_same f g (k + 1) bs (λ j lt. same j (omega (arith, lt))))

-- who is joined by the places is who is joined by the mask
pub rejoin_masked : (b : BoardView) (r : ℕ) (bs : List (Bit NodeState)) → map is_chip (states_on bs) ≡ kinds_of b
    → rejoin_from (joins_by (places_of b r) (states_on bs)) 0 bs ≡ rejoined (mask_of b r) bs
rejoin_masked b r bs is =
    let count = bits_count b r bs is in
    rejoin_same (joins_by (places_of b r) (states_on bs)) (mask_of b r (sites_on bs)) 0 bs
    (λ k lt. masked b r bs is k (omega (arith, lt, count)))

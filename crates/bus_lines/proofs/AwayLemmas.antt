-- The devices of other roots, of which nothing is kept: what is done to the targets that are kept is done to all that are seen.
use Rattle.bus_lines.proofs.Cited.{◌≡◌, ℕ, zero, suc, ◌+◌, ◌-◌, ◌==◌, Bool, true, false, ◌&&◌, ◌||◌, cond, List, [], ◌∷◌, ◌++◌, length, map}
use Rattle.bus_lines.proofs.Cited.{Option, Some, None, refl, sym, ap, ◌∙◌, subst, arith, slice_get, replicate, not, list_all, option_map_or}
use Rattle.bus_lines.proofs.Cited.{Out, In, MuxSpec, BoardView, DeviceView, map_at, map_from, TargetState, Silent, opening_state, root_of}
use Rattle.bus_lines.proofs.Cited.{Bit, site_of, stands, where_joined, some_one, rejoin_from, rejoined, NodeState, Chip, Device, NO_ADDRESS}
use Rattle.bus_lines.proofs.Cited.{mask_of, node_level, levelled_bits, Rooted, is_wired, opened_at, rested, whole_at, whole_on, kept_device}
use Rattle.bus_lines.proofs.Cited.{kept_bits, device_at, PlaceView, is_chip, kinds_of, states_on, opens_at, joins, joins_by, places_of}
use Rattle.bus_lines.proofs.Cited.{mux_place, device_place, read_anew, at_node_level, chip_bit, device_bit, bits_of, by_number, shared}
use Rattle.bus_lines.proofs.Cited.{AreUnits, RegisterView, length-map}
use Rattle.bus_lines.specs.Away.{addr_at}
use Rattle.bus_lines.proofs.KindLemmas.{doors, kinds_doors, joins_kept, states_numbered}
use Rattle.bus_lines.proofs.MaskLemmas.{rejoin_masked, get_right}
use Rattle.bus_lines.proofs.TargetsLemmas.{seen_alone}
use Rattle.bus_lines.proofs.NumberedLemmas.{map_numbered, numbered_map, numbered_twice, numbered_same}
use Rattle.bus_lines.proofs.StopLemmas.{rejoin_numbered}
use Rattle.bus_lines.proofs.UnitLemmas.{both_same}

-- who isn't there isn't joined
unfoldable pub AreAway : List PlaceView → List (Bit NodeState) → Type 0
AreAway ps bs = (k : ℕ) (c : Bit NodeState) → slice_get bs k ≡ Some c → is_wired ps k ≡ false → c.site.joined ≡ false

away_place : (xs : List NodeState) (o : Option PlaceView) → option_map_or (λ (p : PlaceView). p.wired) o false ≡ false
    → option_map_or (joins xs) o false ≡ false
away_place xs None away = refl
away_place xs (Some p) away = ap (λ w. w && list_all (opens_at xs) p.above) away

pub units_away : (ps : List PlaceView) (left : ℕ) (live started : List ℕ) (at : List (List ℕ)) (bs : List (Bit NodeState))
    → AreUnits left live started at (joins_by ps (states_on bs)) bs → AreAway ps bs
unfolding AreAway
units_away ps left live started at bs units k c is away = (units k c is).joined ∙ away_place (states_on bs) (slice_get ps k) away

module _ (b : BoardView) (ps : List PlaceView) where
  whole_goes : (w : Bool) (k : ℕ) (c : Bit NodeState) (g : Bit NodeState → Bit NodeState) →
      ((d : Bit NodeState) → d.site.joined ≡ false → g d ≡ d)
      → (w ≡ false → c.site.joined ≡ false) → g (cond w c (rested b k c)) ≡ cond w (g c) (rested b k (g c))
  whole_goes true k c g stays away = refl
  whole_goes false k c g stays away = stays (rested b k c) (away refl) ∙ ap (rested b k) (sym (stays c (away refl)))

  pub whole_map : (g : Bit NodeState → Bit NodeState) → ((d : Bit NodeState) → d.site.joined ≡ false → g d ≡ d)
      → (xs : List (Bit NodeState))
      → AreAway ps xs → map g (whole_on b ps xs) ≡ whole_on b ps (map g xs)
  unfolding AreAway
  whole_map g stays xs away =
      numbered_map g 0 (whole_on b ps xs) ∙ numbered_twice (whole_at b ps) (λ i c. g c) 0 xs
      ∙ numbered_same (λ i c. g (whole_at b ps i c)) (λ i c. whole_at b ps i (g c)) xs
      (λ i c is. whole_goes (is_wired ps i) i c g stays (away i c is))
      ∙ sym (ap (by_number (whole_at b ps) 0) (numbered_map g 0 xs) ∙ numbered_twice (λ i c. g c) (whole_at b ps) 0 xs)

  joined_leaves : (f : Bit NodeState → Bit NodeState) (d : Bit NodeState) → d.site.joined ≡ false → where_joined f d ≡ d
  joined_leaves f d not = ap (λ j. cond j (f d) d) not

  shared_leaves : (l v : ℕ) (d : Bit NodeState) → d.site.joined ≡ false → shared l v d ≡ d
  shared_leaves zero v d not = refl
  shared_leaves (suc n) v d not = ap (λ j. cond j (stands d.site (In true (suc n) v) 0) d) not

  keeps_joined : (l v : ℕ) (d : Bit NodeState) → d.site.joined ≡ false → (shared l v d).site.joined ≡ false
  keeps_joined l v d not = ap (λ (c : Bit NodeState). c.site.joined) (shared_leaves l v d not) ∙ not

  shared_away : (l v : ℕ) (xs : List (Bit NodeState)) → AreAway ps xs → AreAway ps (map (shared l v) xs)
  unfolding AreAway
  shared_away l v xs away k c is gone =
      let r = map_from (shared l v) xs k c is in
      subst (λ (d : Bit NodeState). d.site.joined ≡ false) r.2 (keeps_joined l v r.0 (away k r.0 r.1 gone))

  -- what an edge comes to
  pub whole_edge : (f : Bit NodeState → Bit NodeState) (l v m w : ℕ) (xs ys : List (Bit NodeState)) → AreAway ps xs → AreAway ps ys
      → map (shared m w) ys ≡ map (where_joined f) (map (shared l v) xs)
      → map (shared m w) (whole_on b ps ys) ≡ map (where_joined f) (map (shared l v) (whole_on b ps xs))
  whole_edge f l v m w xs ys away gone is =
      whole_map (shared m w) (shared_leaves m w) ys gone ∙ ap (whole_on b ps) is
      ∙ sym (whole_map (where_joined f) (joined_leaves f) (map (shared l v) xs) (shared_away l v xs away))
      ∙ ap (map (where_joined f)) (sym (whole_map (shared l v) (shared_leaves l v) xs away))

  -- which channels are open
  device_doors : (x : TargetState) (o : Option DeviceView) → doors (option_map_or (λ (d : DeviceView). Device (opening_state d)) o
      (Device x)) ≡ None
  device_doors x None = refl
  device_doors x (Some d) = refl

  opened_doors : (k : ℕ) (x : NodeState) → doors (opened_at b k x) ≡ doors x
  opened_doors k (Chip x) = refl
  opened_doors k (Device x) = device_doors x (slice_get b.devices (k - length b.muxes))

  whole_either : (w : Bool) (k : ℕ) (c : Bit NodeState) → doors (cond w c (rested b k c)).site.state ≡ doors c.site.state
  whole_either true k c = refl
  whole_either false k c = opened_doors k c.site.state

  pub whole_doors : (xs : List (Bit NodeState)) → map doors (states_on (whole_on b ps xs)) ≡ map doors (states_on xs)
  whole_doors xs = states_numbered doors (whole_at b ps) xs (λ k c is. whole_either (is_wired ps k) k c)

  rejoin_ext : (f g : ℕ → Bool) (k : ℕ) (xs : List (Bit NodeState)) → ((j : ℕ) → f j ≡ g j) → rejoin_from f k xs ≡ rejoin_from g k xs
  rejoin_ext f g k [] same = refl
  rejoin_ext f g k (x ∷ xs) same =
      ap (λ j. read_anew j x ∷ rejoin_from f (k + 1) xs) (same k) ∙ ap (λ ys. read_anew (g k) x ∷ ys) (rejoin_ext f g (k + 1) xs same)

  anew_either : (w j : Bool) (k : ℕ) (c : Bit NodeState) → cond w (read_anew j c) (rested b k (read_anew j c)) ≡ read_anew j
      (cond w c (rested b k c))
  anew_either true j k c = refl
  anew_either false j k c = refl

  -- who is joined is read anew
  pub whole_rejoin : (xs : List (Bit NodeState))
      → whole_on b ps (rejoin_from (joins_by ps (states_on xs)) 0 xs)
      ≡ rejoin_from (joins_by ps (states_on (whole_on b ps xs))) 0 (whole_on b ps xs)
  whole_rejoin xs =
      let f = joins_by ps (states_on xs) in
      ap (whole_on b ps) (rejoin_numbered f 0 xs) ∙ numbered_twice (λ i c. read_anew (f i) c) (whole_at b ps) 0 xs
      ∙ numbered_same (λ i c. whole_at b ps i (read_anew (f i) c)) (λ i c. read_anew (f i) (whole_at b ps i c)) xs
      (λ i c is. anew_either (is_wired ps i) (f i) i c)
      ∙ sym (rejoin_numbered f 0 (whole_on b ps xs) ∙ numbered_twice (whole_at b ps) (λ i c. read_anew (f i) c) 0 xs)
      ∙ rejoin_ext f (joins_by ps (states_on (whole_on b ps xs))) 0 (whole_on b ps xs)
      (λ j. sym (joins_kept ps (states_on (whole_on b ps xs)) (states_on xs) (whole_doors xs) j))

  level_device : (x : TargetState) (level : ℕ) (o : Option DeviceView)
      → node_level (option_map_or (λ (d : DeviceView). Device (opening_state d)) o (Device x)) level
      ≡ option_map_or (λ (d : DeviceView). Device (opening_state d)) o (Device x)
  level_device x level None = refl
  level_device x level (Some d) = refl

  level_opened : (level k : ℕ) (x : NodeState) → node_level (opened_at b k x) level ≡ opened_at b k (node_level x level)
  level_opened level k (Chip x) = refl
  level_opened level k (Device x) = level_device x level (slice_get b.devices (k - length b.muxes))

  address_opened : (level k : ℕ) (x : NodeState) (addr : ℕ) → addr_at b k (node_level x level) addr ≡ addr_at b k x addr
  address_opened level k (Chip x) addr = refl
  address_opened level k (Device x) addr = refl

  level_either : (w : Bool) (level k : ℕ) (c : Bit NodeState) → at_node_level level (cond w c (rested b k c)) ≡ cond w
      (at_node_level level c) (rested b k (at_node_level level c))
  level_either true level k c = refl
  level_either false level k c =
      ap (λ x. record c { site = record c.site { addr = addr_at b k c.site.state c.site.addr; state = x } })
      (level_opened level k c.site.state)
      ∙ ap (λ a. record c { site = record c.site { addr = a; state = opened_at b k (node_level c.site.state level) } })
      (sym (address_opened level k c.site.state c.site.addr))

  levelled_from : (m level k : ℕ) (xs : List (Bit NodeState))
      → levelled_bits m level (by_number (whole_at b ps) k xs) ≡ by_number (whole_at b ps) k (levelled_bits m level xs)
  levelled_from m level k [] = refl
  levelled_from zero level k (x ∷ xs) = ap (λ y. y ∷ by_number (whole_at b ps) (k + 1) xs) (level_either (is_wired ps k) level k x)
  levelled_from (suc m) level k (x ∷ xs) = ap (λ ys. whole_at b ps k x ∷ ys) (levelled_from m level (k + 1) xs)

  -- a line is set
  pub whole_level : (m level : ℕ) (xs : List (Bit NodeState)) → levelled_bits m level (whole_on b ps xs) ≡ whole_on b ps
      (levelled_bits m level xs)
  whole_level m level xs = levelled_from m level 0 xs

  -- who pulls
  some_from : (p : Bit NodeState → Bool) (k : ℕ) (xs : List (Bit NodeState))
      → ((i : ℕ) (c : Bit NodeState) → slice_get xs i ≡ Some c → p (whole_at b ps (k + i) c) ≡ p c)
      → some_one p (by_number (whole_at b ps) k xs) ≡ some_one p xs
  some_from p k [] same = refl
  some_from p k (x ∷ xs) same =
      let e : k + 0 ≡ k = omega arith in
      ap (λ t. t || some_one p (by_number (whole_at b ps) (k + 1) xs)) (subst (λ n. p (whole_at b ps n x) ≡ p x) e (same 0 x refl))
      ∙ ap (λ t. p x || t) (some_from p (k + 1) xs (λ i c is. let e : k + suc i ≡ k + 1 + i = omega arith in
      subst (λ n. p (whole_at b ps n c) ≡ p c) e (same (suc i) c is)))

  pull_either : (p : Bit NodeState → Bool) → ((d : Bit NodeState) → d.site.joined ≡ false → p d ≡ false)
      → (w : Bool) (k : ℕ) (c : Bit NodeState)
      → (w ≡ false → c.site.joined ≡ false) → p (cond w c (rested b k c)) ≡ p c
  pull_either p none true k c away = refl
  pull_either p none false k c away = none (rested b k c) (away refl) ∙ sym (none c (away refl))

  pub whole_some : (p : Bit NodeState → Bool) → ((d : Bit NodeState) → d.site.joined ≡ false → p d ≡ false)
      → (l v : ℕ) (xs : List (Bit NodeState))
      → AreAway ps xs → some_one p (map (shared l v) xs) ≡ some_one p (map (shared l v) (whole_on b ps xs))
  unfolding AreAway
  whole_some p none l v xs away =
      sym (ap (some_one p) (whole_map (shared l v) (shared_leaves l v) xs away)
      ∙ some_from p 0 (map (shared l v) xs) (λ i c is. let e : i ≡ 0 + i = omega arith in
      subst (λ n. p (whole_at b ps n c) ≡ p c) e
      (pull_either p none (is_wired ps i) i c (shared_away l v xs away i c is))))

  -- what each gives, where who isn't joined gives always the same
  give_either : (q : Bit NodeState → ℕ) (e : ℕ) → ((d : Bit NodeState) → d.site.joined ≡ false → q d ≡ e)
      → (w : Bool) (k : ℕ) (c : Bit NodeState)
      → (w ≡ false → c.site.joined ≡ false) → q (cond w c (rested b k c)) ≡ q c
  give_either q e none true k c away = refl
  give_either q e none false k c away = none (rested b k c) (away refl) ∙ sym (none c (away refl))

  pub whole_given : (q : Bit NodeState → ℕ) (e : ℕ) → ((d : Bit NodeState) → d.site.joined ≡ false → q d ≡ e) → (l v : ℕ)
      (xs : List (Bit NodeState)) → AreAway ps xs → map q (map (shared l v) xs) ≡ map q (map (shared l v) (whole_on b ps xs))
  unfolding AreAway
  whole_given q e none l v xs away =
      sym (ap (map q) (whole_map (shared l v) (shared_leaves l v) xs away)
      ∙ map_numbered (whole_at b ps) q q (map (shared l v) xs)
      (λ i c is. give_either q e none (is_wired ps i) i c (shared_away l v xs away i c is)))

  -- what a stop comes to
  pub whole_stop : (f : Bit NodeState → Bit NodeState) (l v : ℕ) (xs ys : List (Bit NodeState)) → AreAway ps xs
      → ys ≡ map (where_joined f) (map (shared l v) xs) → whole_on b ps ys ≡ map (where_joined f) (map (shared l v) (whole_on b ps xs))
  whole_stop f l v xs ys away is =
      ap (whole_on b ps) is
      ∙ sym (whole_map (where_joined f) (joined_leaves f) (map (shared l v) xs) (shared_away l v xs away))
      ∙ ap (map (where_joined f)) (sym (whole_map (shared l v) (shared_leaves l v) xs away))

  pub whole_line : (m level l v : ℕ) (xs ys : List (Bit NodeState)) → AreAway ps xs → ys ≡ levelled_bits m level (map (shared l v) xs)
      → whole_on b ps ys ≡ levelled_bits m level (map (shared l v) (whole_on b ps xs))
  whole_line m level l v xs ys away is =
      ap (whole_on b ps) is ∙ sym (whole_level m level (map (shared l v) xs))
      ∙ ap (levelled_bits m level) (sym (whole_map (shared l v) (shared_leaves l v) xs away))

-- ---- who is joined is read anew, of all
pub whole_rejoined : (k : Rooted) (ps : List PlaceView) → ps ≡ places_of k.board k.root → (bs : List (Bit NodeState))
    → map is_chip (states_on bs) ≡ kinds_of k.board → (now : RegisterView) → now.left ≡ 0 → (new : List (Bit NodeState))
    → new ≡ rejoin_from (joins_by ps (states_on bs)) 0 bs
    → map (shared now.left now.value) (whole_on k.board ps new) ≡ rejoined (mask_of k.board k.root) (whole_on k.board ps bs)
whole_rejoined k ps places bs kinds now over new is =
    let all = whole_on k.board ps bs in
    seen_alone now.left now.value (whole_on k.board ps new) over ∙ ap (whole_on k.board ps) is ∙ whole_rejoin k.board ps bs
    ∙ ap (λ qs. rejoin_from (joins_by qs (states_on all)) 0 all) places
    ∙ rejoin_masked k.board k.root all (kinds_doors (states_on all) (states_on bs) (whole_doors k.board ps bs) ∙ kinds)

-- ---- the opening
device_whole : (b : BoardView) (ps : List PlaceView) (k : ℕ) (w : Bool) (d : DeviceView) → is_wired ps k ≡ w
    → slice_get b.devices (k - length b.muxes) ≡ Some d → whole_at b ps k (device_at w d) ≡ device_bit d
device_whole b ps k true d wired is = ap (λ u. cond u (device_at true d) (rested b k (device_at true d))) wired
device_whole b ps k false d wired is =
    ap (λ u. cond u (device_at false d) (rested b k (device_at false d))) wired
    ∙ ap (λ (o : Option DeviceView). stands
    (site_of (option_map_or (λ (x : DeviceView). x.addr) o NO_ADDRESS) false false
    (option_map_or (λ (x : DeviceView). Device (opening_state x)) o (Device Silent))) Out 0) is

devices_whole : (b : BoardView) (ps : List PlaceView) (r n : ℕ) (ds : List DeviceView)
    → ((j : ℕ) (d : DeviceView) → slice_get ds j ≡ Some d → is_wired ps (n + j) ≡ (root_of b d.bus == r))
    → ((j : ℕ) (d : DeviceView) → slice_get ds j ≡ Some d → slice_get b.devices (n + j - length b.muxes) ≡ Some d)
    → by_number (whole_at b ps) n (map (kept_device b r) ds) ≡ map device_bit ds
devices_whole b ps r n [] wired are = refl
devices_whole b ps r n (d ∷ ds) wired are =
    let e : n + 0 ≡ n = omega arith in
    ap (λ c. c ∷ by_number (whole_at b ps) (n + 1) (map (kept_device b r) ds))
    (device_whole b ps n (root_of b d.bus == r) d (subst (λ k. is_wired ps k ≡ (root_of b d.bus == r)) e (wired 0 d refl))
    (subst (λ k. slice_get b.devices (k - length b.muxes) ≡ Some d) e (are 0 d refl)))
    ∙ ap (λ cs. device_bit d ∷ cs)
    (devices_whole b ps r (n + 1) ds
    (λ j x is. let e : n + suc j ≡ n + 1 + j = omega arith in subst (λ k. is_wired ps k ≡ (root_of b x.bus == r)) e (wired (suc j) x is))
    (λ j x is. let e : n + suc j ≡ n + 1 + j = omega arith in subst (λ k. slice_get b.devices (k - length b.muxes) ≡ Some x) e
    (are (suc j) x is)))

chips_whole : (b : BoardView) (ps : List PlaceView) (n : ℕ) (ms : List MuxSpec) (xs ys : List (Bit NodeState))
    → by_number (whole_at b ps) (n + length ms) xs ≡ ys → by_number (whole_at b ps) n (map chip_bit ms ++ xs) ≡ map chip_bit ms ++ ys
chips_whole b ps n [] xs ys rest =
    let e : n ≡ n + 0 = omega arith in ap (λ k. by_number (whole_at b ps) k xs) e ∙ rest
chips_whole b ps n (m ∷ ms) xs ys rest =
    let e : n + 1 + length ms ≡ n + suc (length ms) = omega arith in
    ap (λ c. c ∷ by_number (whole_at b ps) (n + 1) (map chip_bit ms ++ xs)) (both_same (is_wired ps n) (chip_bit m))
    ∙ ap (λ cs. chip_bit m ∷ cs) (chips_whole b ps (n + 1) ms xs ys (ap (λ k. by_number (whole_at b ps) k xs) e ∙ rest))

pub kept_whole : (b : BoardView) (r : ℕ) → whole_on b (places_of b r) (kept_bits b r) ≡ bits_of b
kept_whole b r =
    let count : length (map (mux_place b r) b.muxes) ≡ length b.muxes = length-map b.muxes (mux_place b r) in
    chips_whole b (places_of b r) 0 b.muxes (map (kept_device b r) b.devices) (map device_bit b.devices)
    (devices_whole b (places_of b r) r (0 + length b.muxes) b.devices
    (λ j d is.
    let e : 0 + length b.muxes + j - length (map (mux_place b r) b.muxes) ≡ j = omega (arith, count) in
    ap (λ o. option_map_or (λ (p : PlaceView). p.wired) o false)
    (get_right (map (mux_place b r) b.muxes) (map (device_place b r) b.devices) (0 + length b.muxes + j) (omega (arith, count))
    ∙ ap (slice_get (map (device_place b r) b.devices)) e ∙ map_at (device_place b r) b.devices j d is))
    (λ j d is. let e : 0 + length b.muxes + j - length b.muxes ≡ j = omega arith in ap (slice_get b.devices) e ∙ is))

device_kinds : (b : BoardView) (r : ℕ) (ds : List DeviceView) → map is_chip (states_on (map (kept_device b r) ds)) ≡ replicate
    (length ds) false
device_kinds b r [] = refl
device_kinds b r (d ∷ ds) = ap (λ ks. false ∷ ks) (device_kinds b r ds)

chip_kinds : (b : BoardView) (r : ℕ) (ms : List MuxSpec) (ds : List DeviceView)
    → map is_chip (states_on (map chip_bit ms ++ map (kept_device b r) ds)) ≡ replicate (length ms) true ++ replicate (length ds) false
chip_kinds b r [] ds = device_kinds b r ds
chip_kinds b r (m ∷ ms) ds = ap (λ ks. true ∷ ks) (chip_kinds b r ms ds)

pub kept_kinds : (b : BoardView) (r : ℕ) → map is_chip (states_on (kept_bits b r)) ≡ kinds_of b
kept_kinds b r = chip_kinds b r b.muxes b.devices

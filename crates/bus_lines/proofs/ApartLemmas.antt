-- The targets of a root off its lines: chips, and then devices, one of which is taken out.
use Rattle.bus_lines.proofs.Cited.{◌≡◌, ℕ, zero, suc, ◌+◌, ◌-◌, ◌<◌, Bool, true, false, cond, count_by, List, [], ◌∷◌, ◌++◌, length, map}
use Rattle.bus_lines.proofs.Cited.{drop, set, get_or, Option, Some, None, refl, sym, ap, ◌∙◌, subst, arith, IsSome, if◌then◌else◌}
use Rattle.bus_lines.proofs.Cited.{slice_get, replicate, option_map_or, length-map, length-append, BoardView, DeviceView, ChipView}
use Rattle.bus_lines.proofs.Cited.{TargetState, Silent, opening_state, Site, Bit, NodeState, Chip, Device, site_with, both, chip_by}
use Rattle.bus_lines.proofs.Cited.{chips_in, states_of, world_of, PartsOfBoth, Rooted, PlaceView, mux_place, device_place, places_of}
use Rattle.bus_lines.proofs.Cited.{is_chip, kinds_of, states_on, is_wired, opened_at, rested, whole_at, whole_on, by_number, is_own}
use Rattle.bus_lines.proofs.Cited.{own_device, without, apart_of, world_apart, device_of}
use Rattle.std.specs.Prelude.{slice_set}
use Rattle.std.specs.Option.{option_map}
use Rattle.std.proofs.lemmas.List.{map-set, get_or-map, get_or-append-add, set-append_right}
use Rattle.std.proofs.lemmas.List.Sums.{sum_by-cons}
use Rattle.std.proofs.lemmas.Option.{slice_get-map, slice_get-get_or}
use Rattle.i2c_base.specs.declared.ids.Node.{Node}
use Rattle.i2c_base.specs.declared.ids.Node.TheVariants as node
use Rattle.wire_spec.specs.Roots.{hearing}
use Rattle.wire_spec.specs.Sites.{device_by, devices_in, names_of, world_by}
use Rattle.bus_lines.specs.Owned.{is_of}
use Rattle.bus_lines.specs.Aparts.{emptied}
use Rattle.bus_lines.proofs.MaskLemmas.{Kinds, sites_on}
use Rattle.bus_lines.proofs.NumberedLemmas.{length-numbered}

-- ---- which devices are of the root
wired_of : (b : BoardView) (r : ℕ) (o : Option DeviceView)
    → option_map_or (λ p. p.wired) (option_map (device_place b r) o) false ≡ option_map_or (is_of b r) o false
wired_of b r None = refl
wired_of b r (Some d) = refl

drop_left : {A : Type 0} (xs ys : List A) → drop (length xs) (xs ++ ys) ≡ ys
drop_left [] ys = refl
drop_left (x ∷ xs) ys = drop_left xs ys

drop_none : {A : Type 0} (m : ℕ) → drop {A = A} m [] ≡ []
drop_none zero = refl
drop_none (suc m) = refl

drop_at : {A : Type 0} (m k : ℕ) (xs : List A) → slice_get (drop m xs) k ≡ slice_get xs (m + k)
drop_at m k [] = ap (λ ys. slice_get ys k) (drop_none m)
drop_at zero k (x ∷ xs) = let e : k ≡ 0 + k = omega arith in ap (slice_get (x ∷ xs)) e
drop_at (suc m) k (x ∷ xs) =
    let e : suc (m + k) ≡ suc m + k = omega arith in
    drop_at m k xs ∙ ap (slice_get (x ∷ xs)) e

pub wired_from : (m k : ℕ) (ps : List PlaceView) → is_wired (drop m ps) k ≡ is_wired ps (m + k)
wired_from m k ps = ap (λ o. option_map_or (λ (p : PlaceView). p.wired) o false) (drop_at m k ps)

pub wired_own : (b : BoardView) (r m k : ℕ) (ps : List PlaceView) → m ≡ length b.muxes → ps ≡ places_of b r
    → is_wired (drop m ps) k ≡ is_own b r k
wired_own b r m k ps count are =
    let e : m ≡ length (map (mux_place b r) b.muxes) = count ∙ sym (length-map b.muxes (mux_place b r)) in
    ap (λ qs. is_wired (drop m qs) k) are
    ∙ ap (λ n. is_wired (drop n (places_of b r)) k) e
    ∙ ap (λ qs. is_wired qs k) (drop_left (map (mux_place b r) b.muxes) (map (device_place b r) b.devices))
    ∙ ap (λ o. option_map_or (λ p. p.wired) o false) (slice_get-map (device_place b r) b.devices k)
    ∙ wired_of b r (slice_get b.devices k)

low_in : (b : BoardView) (r : ℕ) (ds : List DeviceView) (k : ℕ) → option_map_or (is_of b r) (slice_get ds k) false ≡ true → k < length ds
low_in b r [] k own = absurd (let e : true ≡ false = sym own in cc)
low_in b r (d ∷ ds) zero own = omega arith
low_in b r (d ∷ ds) (suc k) own = let low = low_in b r ds k own in omega (arith, low)

pub own_low : (b : BoardView) (r k : ℕ) → is_own b r k ≡ true → k < length b.devices
own_low b r k own = low_in b r b.devices k own

-- ---- chips, and then devices
abbrev Parts : List (Site NodeState) → List (Site ChipView) → List (Site TargetState) → ℕ → ℕ → Type 0
Parts ss cs ds n m = (ss ≡ both cs ds) × (length cs ≡ n) × (length ds ≡ m)

parts_cons : (s : Site NodeState) (x : NodeState) (nodes : List NodeState) (ss : List (Site NodeState)) (cs : List (Site ChipView))
    (ds : List (Site TargetState)) (n m : ℕ) → s.state ≡ x → Kinds n m (x ∷ nodes)
    → ((n m : ℕ) → Kinds n m nodes → Parts ss cs ds n m) → Parts (s ∷ ss) (chip_by s x cs) (device_by s x ds) n m
parts_cons s (Chip x) nodes ss cs ds zero zero state is same = let g : (true ∷ map is_chip nodes) ≡ [] = is in cc
parts_cons s (Chip x) nodes ss cs ds zero (suc m) state is same = let g : (true ∷ map is_chip nodes) ≡ (false ∷ replicate m false) = is in
    cc
parts_cons s (Chip x) nodes ss cs ds (suc n) m state is same =
    let g : (true ∷ map is_chip nodes) ≡ (true ∷ (replicate n true ++ replicate m false)) = is in
    let e : map is_chip nodes ≡ replicate n true ++ replicate m false = cc in
    let p = same n m e in
    (ap (λ (y : NodeState). record s { state = y } ∷ ss) state ∙ ap (λ ts. record s { state = Chip x } ∷ ts) p.0, ap suc p.1, p.2)
parts_cons s (Device x) nodes ss cs ds zero zero state is same = let g : (false ∷ map is_chip nodes) ≡ [] = is in cc
parts_cons s (Device x) nodes ss [] ds zero (suc m) state is same =
    let g : (false ∷ map is_chip nodes) ≡ (false ∷ replicate m false) = is in
    let e : map is_chip nodes ≡ replicate m false = cc in
    let p = same 0 m e in
    (ap (λ (y : NodeState). record s { state = y } ∷ ss) state ∙ ap (λ ts. record s { state = Device x } ∷ ts) p.0, p.1, ap suc p.2)
parts_cons s (Device x) nodes ss (c ∷ cs) ds zero (suc m) state is same =
    let g : (false ∷ map is_chip nodes) ≡ (false ∷ replicate m false) = is in
    let e : map is_chip nodes ≡ replicate m false = cc in
    let p = same 0 m e in absurd (omega (arith, p.1))
parts_cons s (Device x) nodes ss cs ds (suc n) m state is same =
    let g : (false ∷ map is_chip nodes) ≡ (true ∷ (replicate n true ++ replicate m false)) = is in cc

no_parts : (n m : ℕ) → Kinds n m [] → Parts [] [] [] n m
no_parts zero zero is = (refl, refl, refl)
no_parts zero (suc m) is = let g : [] ≡ (false ∷ replicate m false) = is in cc
no_parts (suc n) m is = let g : [] ≡ (true ∷ (replicate n true ++ replicate m false)) = is in cc

pub parts_are : (bs : List (Bit NodeState)) (n m : ℕ) → Kinds n m (states_on bs)
    → Parts (sites_on bs) (chips_in (sites_on bs)) (devices_in (sites_on bs)) n m
parts_are [] n m is = no_parts n m is
parts_are (b ∷ bs) n m is =
    parts_cons b.site b.site.state (states_on bs) (sites_on bs) (chips_in (sites_on bs)) (devices_in (sites_on bs)) n m refl is
    (parts_are bs)

-- so many chips there are
counted_cons : (x : NodeState) (bs : List (Bit NodeState)) (n m : ℕ) → Kinds n m (x ∷ states_on bs)
    → ((n m : ℕ) → Kinds n m (states_on bs) → count_by (λ (b : Bit NodeState). is_chip b.site.state) bs ≡ n)
    → cond (is_chip x) 1 0 + count_by (λ (b : Bit NodeState). is_chip b.site.state) bs ≡ n
counted_cons (Chip x) bs zero zero is same = let g : (true ∷ map is_chip (states_on bs)) ≡ [] = is in cc
counted_cons (Chip x) bs zero (suc m) is same = let g : (true ∷ map is_chip (states_on bs)) ≡ (false ∷ replicate m false) = is in cc
counted_cons (Chip x) bs (suc n) m is same =
    let g : (true ∷ map is_chip (states_on bs)) ≡ (true ∷ (replicate n true ++ replicate m false)) = is in
    let e : map is_chip (states_on bs) ≡ replicate n true ++ replicate m false = cc in
    omega (arith, same n m e)
counted_cons (Device x) bs zero zero is same = let g : (false ∷ map is_chip (states_on bs)) ≡ [] = is in cc
counted_cons (Device x) bs zero (suc m) is same =
    let g : (false ∷ map is_chip (states_on bs)) ≡ (false ∷ replicate m false) = is in
    let e : map is_chip (states_on bs) ≡ replicate m false = cc in
    omega (arith, same 0 m e)
counted_cons (Device x) bs (suc n) m is same =
    let g : (false ∷ map is_chip (states_on bs)) ≡ (true ∷ (replicate n true ++ replicate m false)) = is in cc

pub chips_counted : (bs : List (Bit NodeState)) (n m : ℕ) → Kinds n m (states_on bs) → count_by
    (λ (b : Bit NodeState). is_chip b.site.state) bs ≡ n
chips_counted [] zero m is = refl
chips_counted [] (suc n) m is = let g : [] ≡ (true ∷ (replicate n true ++ replicate m false)) = is in cc
chips_counted (b ∷ bs) n m is = sum_by-cons (λ (c : Bit NodeState). cond (is_chip c.site.state) 1 0) b bs
    ∙ counted_cons b.site.state bs n m is (chips_counted bs)

-- ---- what is kept of a target that is there is what is seen of it
get_numbered : {A : Type 0} (f : ℕ → A → A) (k i : ℕ) (xs : List A) (d : A) → i < length xs
    → get_or (by_number f k xs) i d ≡ f (k + i) (get_or xs i d)
get_numbered f k i [] d lt = absurd (omega (arith, lt))
get_numbered f k zero (x ∷ xs) d lt = let e : k ≡ k + 0 = omega arith in ap (λ n. f n x) e
get_numbered f k (suc i) (x ∷ xs) d lt =
    let e : k + 1 + i ≡ k + suc i = omega arith in
    get_numbered f (k + 1) i xs d (omega (arith, lt)) ∙ ap (λ n. f n (get_or xs i d)) e

set_numbered : {A : Type 0} (f : ℕ → A → A) (k i : ℕ) (xs : List A) (y : A) → by_number f k (set xs i y) ≡ set (by_number f k xs) i
    (f (k + i) y)
set_numbered f k i [] y = refl
set_numbered f k zero (x ∷ xs) y = let e : k ≡ k + 0 = omega arith in ap (λ n. f n y ∷ by_number f (k + 1) xs) e
set_numbered f k (suc i) (x ∷ xs) y =
    let e : k + 1 + i ≡ k + suc i = omega arith in
    ap (λ ys. f k x ∷ ys) (set_numbered f (k + 1) i xs y ∙ ap (λ n. set (by_number f (k + 1) xs) i (f n y)) e)

there_whole : (b : BoardView) (ps : List PlaceView) (i : ℕ) (c : Bit NodeState) → is_wired ps i ≡ true → whole_at b ps i c ≡ c
there_whole b ps i c wired = ap (λ t. cond t c (rested b i c)) wired

pub get_whole : (b : BoardView) (ps : List PlaceView) (i : ℕ) (bs : List (Bit NodeState)) (d : Bit NodeState) → is_wired ps i ≡ true
    → i < length bs
    → get_or (whole_on b ps bs) i d ≡ get_or bs i d
get_whole b ps i bs d wired lt =
    let e : 0 + i ≡ i = omega arith in
    get_numbered (whole_at b ps) 0 i bs d lt ∙ ap (λ n. whole_at b ps n (get_or bs i d)) e ∙ there_whole b ps i (get_or bs i d) wired

pub set_whole : (b : BoardView) (ps : List PlaceView) (i : ℕ) (bs : List (Bit NodeState)) (y : Bit NodeState) → is_wired ps i ≡ true
    → whole_on b ps (set bs i y) ≡ set (whole_on b ps bs) i y
set_whole b ps i bs y wired =
    let e : 0 + i ≡ i = omega arith in
    set_numbered (whole_at b ps) 0 i bs y
    ∙ ap (λ n. set (by_number (whole_at b ps) 0 bs) i (whole_at b ps n y)) e
    ∙ ap (λ c. set (by_number (whole_at b ps) 0 bs) i c) (there_whole b ps i y wired)

kind_opened : (b : BoardView) (k : ℕ) (x : NodeState) → is_chip (opened_at b k x) ≡ is_chip x
kind_opened b k (Chip x) = refl
kind_opened b k (Device x) = kind_or (slice_get b.devices (k - length b.muxes))
  where
    kind_or : (o : Option DeviceView) → is_chip (option_map_or (λ (d : DeviceView). Device (opening_state d)) o (Device x)) ≡ false
    kind_or None = refl
    kind_or (Some d) = refl

kind_whole : (b : BoardView) (k : ℕ) (t : Bool) (c : Bit NodeState)
    → is_chip (cond t c (rested b k c)).site.state ≡ is_chip c.site.state
kind_whole b k true c = refl
kind_whole b k false c = kind_opened b k c.site.state

kinds_from : (b : BoardView) (ps : List PlaceView) (k : ℕ) (bs : List (Bit NodeState))
    → map is_chip (states_on (by_number (whole_at b ps) k bs)) ≡ map is_chip (states_on bs)
kinds_from b ps k [] = refl
kinds_from b ps k (c ∷ cs) =
    ap (λ t. t ∷ map is_chip (states_on (by_number (whole_at b ps) (k + 1) cs))) (kind_whole b k (is_wired ps k) c)
    ∙ ap (λ ts. is_chip c.site.state ∷ ts) (kinds_from b ps (k + 1) cs)

pub kinds_whole : (b : BoardView) (ps : List PlaceView) (bs : List (Bit NodeState))
    → map is_chip (states_on (whole_on b ps bs)) ≡ map is_chip (states_on bs)
kinds_whole b ps bs = kinds_from b ps 0 bs

pub long_whole : (b : BoardView) (ps : List PlaceView) (bs : List (Bit NodeState)) → length (whole_on b ps bs) ≡ length bs
long_whole b ps bs = length-numbered (whole_at b ps) 0 bs

-- who is in the message stays so, where one is replaced by one that is in it alike
names_set : {X : Type 0} (name : ℕ → Node) (j k : ℕ) (ds : List (Site X)) (d s : Site X) → hearing s ≡ hearing (get_or ds k d)
    → k < length ds
    → names_of name j (set ds k s) ≡ names_of name j ds
names_set name j k [] d s is lt = absurd (omega (arith, lt))
names_set name j zero (x ∷ ds) d s is lt = ap (λ h. if h then name j ∷ names_of name (j + 1) ds else names_of name (j + 1) ds) is
names_set name j (suc k) (x ∷ ds) d s is lt =
    ap (λ ns. if hearing x then name j ∷ ns else ns) (names_set name (j + 1) k ds d s is (omega (arith, lt)))

-- a chip stays a chip, and a device a device
emptied_kind : (x : NodeState) → is_chip (emptied x) ≡ is_chip x
emptied_kind (Chip x) = refl
emptied_kind (Device x) = refl

kinds_set : (i : ℕ) (bs : List (Bit NodeState)) (d y : Bit NodeState) → is_chip y.site.state ≡ is_chip (get_or bs i d).site.state
    → map is_chip (states_on (set bs i y)) ≡ map is_chip (states_on bs)
kinds_set i [] d y is = refl
kinds_set zero (b ∷ bs) d y is = ap (λ k. k ∷ map is_chip (states_on bs)) is
kinds_set (suc i) (b ∷ bs) d y is = ap (λ ks. is_chip b.site.state ∷ ks) (kinds_set i bs d y is)

abbrev pub emptied_site : Site NodeState → Site NodeState
emptied_site s = record s { state = emptied s.state }

pub kinds_set_of : (i : ℕ) (bs : List (Bit NodeState)) (d y : Bit NodeState) → y.site ≡ emptied_site (get_or bs i d).site
    → map is_chip (states_on (set bs i y)) ≡ map is_chip (states_on bs)
kinds_set_of i bs d y is = kinds_set i bs d y (ap (λ (s : Site NodeState). is_chip s.state) is ∙ emptied_kind (get_or bs i d).site.state)

-- no device at all
nobody : Site TargetState
nobody = record { addr = 0; joined = false; heard = false; state = Silent }

-- one of the devices is taken out
module _ (parts : (cs : List (Site ChipView)) (ds : List (Site TargetState)) → PartsOfBoth cs ds) (k : Rooted) (bs : List (Bit NodeState))
    (m number : ℕ) (are : map is_chip (states_on bs) ≡ kinds_of k.board) (count : m ≡ length k.board.muxes)
    (own : is_own k.board k.root number ≡ true) (d : Bit NodeState) where
  abbrev ss : List (Site NodeState)
  ss = sites_on bs

  abbrev cs : List (Site ChipView)
  cs = chips_in ss

  abbrev ds : List (Site TargetState)
  ds = devices_in ss

  p : Parts ss cs ds (length k.board.muxes) (length k.board.devices)
  p = parts_are bs (length k.board.muxes) (length k.board.devices) are

  low : number < length ds
  low = omega (arith, own_low k.board k.root number own, p.2)

  bits_count : length bs ≡ length cs + length ds
  bits_count =
      sym (length-map bs (λ (b : Bit NodeState). b.site)) ∙ ap length p.0
      ∙ length-append (map (site_with Chip) cs) (map (site_with Device) ds)
      ∙ ap (λ n. n + length (map (site_with Device) ds)) (length-map cs (site_with Chip))
      ∙ ap (λ n. length cs + n) (length-map ds (site_with Device))

  pub in_bits : m + number < length bs
  in_bits = omega (arith, bits_count, low, count, p.1)

  chips_long : length (map (site_with Chip) cs) ≡ m
  chips_long = length-map cs (site_with Chip) ∙ omega (arith, p.1, count)

  abbrev it : Site TargetState
  it = get_or ds number nobody

  -- the target of that number is the device
  site_is : (get_or bs (m + number) d).site ≡ site_with Device it
  site_is =
      sym (get_or-map (λ (b : Bit NodeState). b.site) bs (m + number) d d.site in_bits)
      ∙ ap (λ ts. get_or ts (m + number) d.site) p.0
      ∙ ap (λ n. get_or (both cs ds) (n + number) d.site) (sym chips_long)
      ∙ get_or-append-add (map (site_with Chip) cs) (map (site_with Device) ds) number d.site
      ∙ get_or-map (site_with Device) ds number nobody d.site low

  pub device_is : device_of (get_or bs (m + number) d).site.state ≡ slice_get (states_of ds) number
  device_is =
      ap (λ (s : Site NodeState). device_of s.state) site_is
      ∙ sym (slice_get-map (λ (s : Site TargetState). s.state) ds number ∙ ap (option_map (λ (s : Site TargetState). s.state))
      (slice_get-get_or ds number nobody low))

  pub device_there : IsSome (device_of (get_or bs (m + number) d).site.state)
  device_there = subst (λ (s : Site NodeState). IsSome (device_of s.state)) (sym site_is) refl

  pub own_is : device_of (get_or bs (m + number) d).site.state ≡ own_device (world_apart false (apart_of k bs)) number
  own_is = device_is ∙ ap (λ (o : Bool). if o then slice_get (states_of ds) number else None) (sym own)

  module _ (y : Bit NodeState) (taken : y.site ≡ emptied_site (get_or bs (m + number) d).site) where
    abbrev left : Site TargetState
    left = record it { state = Silent }

    abbrev after : List (Site TargetState)
    after = set ds number left

    sites_after : sites_on (set bs (m + number) y) ≡ both cs after
    sites_after =
        map-set (λ (b : Bit NodeState). b.site) bs (m + number) y
        ∙ ap (λ ts. set ts (m + number) y.site) p.0
        ∙ ap (λ (s : Site NodeState). set (both cs ds) (m + number) s) (taken ∙ ap emptied_site site_is)
        ∙ set-append_right (map (site_with Chip) cs) (map (site_with Device) ds) m (m + number) (site_with Device left) chips_long
        (omega arith)
        ∙ (let e : m + number - m ≡ number = omega arith in
        ap (λ i. map (site_with Chip) cs ++ set (map (site_with Device) ds) i (site_with Device left)) e)
        ∙ ap (λ ts. map (site_with Chip) cs ++ ts) (sym (map-set (site_with Device) ds number left))

    pub world_after : (busy : Bool) → world_apart busy (apart_of k (set bs (m + number) y)) ≡ without
        (world_apart busy (apart_of k bs)) number
    world_after busy =
        let w = world_by k.board k.root busy cs ds in
        ap (world_of k.board k.root busy) sites_after
        ∙ ap (λ xs. world_by k.board k.root busy xs (devices_in (both cs after))) (parts cs after).chips
        ∙ ap (λ ys. world_by k.board k.root busy cs ys) (parts cs after).devices
        ∙ ap (λ ns. record w { devices = states_of after; hearing = names_of node.Chip 0 cs ++ ns })
        (names_set node.Device 0 number ds nobody left refl low)
        ∙ ap (λ xs. record w { devices = xs }) (map-set (λ (s : Site TargetState). s.state) ds number left)
        ∙ ap (λ (o : Bool). record w { devices = if o then slice_set w.devices number Silent else w.devices }) (sym own)

-- The flags of the sites are the world's: after a byte and a start as before, and after a stop by what is read anew.
use Rattle.wire_spec.proofs.Cited.{◌≡◌, ℕ, zero, suc, ◌+◌, ◌-◌, ◌<◌, ◌≤◌, Bool, true, false, cond, List, [], ◌∷◌, ◌++◌, map, length, refl}
use Rattle.wire_spec.proofs.Cited.{ap, sym, ◌∙◌, arith, ◌==◌, ◌&&◌, nat_lt, slice_get, if◌then◌else◌, option_map_or, nat_tests, BoardView}
use Rattle.wire_spec.proofs.Cited.{Table, ChipView, chip_table, TargetState, World, joins_chip, joins_device, Site, hears, other, puts}
use Rattle.wire_spec.proofs.Cited.{gets, is_named, is_reading, put_site, get_site, hearing, started, joined_from, rejoin, NodeState, Chip}
use Rattle.wire_spec.proofs.Cited.{Device, site_with, both, devices_in, states_of, world_by, Tells, HaveAddresses, AreSites, mask_of}
use Rattle.std.specs.List.{list_all}
use Rattle.i2c_base.specs.declared.event.Event.TheVariants as event
use Rattle.i2c_base.specs.Limits.{POLLS}
use Rattle.i2c_base.specs.Muxes.{facts_of}
use Rattle.i2c_spec.specs.Chips.{chip_after, is_open}
use Rattle.i2c_spec.specs.Tree.{of_device, hops, root_of, home_of_mux}
use Rattle.i2c_spec.specs.World.{opens_hop, is_joined, has_chip}
use Rattle.wire_spec.specs.Sites.{chips_anew, devices_anew}
use Rattle.wire_spec.proofs.WorldLemmas.{chips_both, devices_both}

-- ---- only a stop opens or closes a channel
looked_if : (asks good : Bool) (c : ChipView) (ch : ℕ)
    → is_open (if asks then (if good then c else record c { left = c.left - 1 }) else c) ch ≡ is_open c ch
looked_if true true c ch = refl
looked_if true false c ch = refl
looked_if false good c ch = refl

pub get_open : (c : ChipView) (ack : Bool) (ch : ℕ) → is_open (chip_after c (event.Get ack)) ch ≡ is_open c ch
get_open c ack ch = looked_if (facts_of c.kind).asks (c.foreign == POLLS) c ch

abbrev pub Keeps : (Site ChipView → Site ChipView) → Type 0
Keeps F = (s : Site ChipView) (ch : ℕ) → is_open (F s).state ch ≡ is_open s.state ch

-- what holds of both holds of whichever it is
pub of_either : {X A : Type 0} (p : Site X → A) (b : Bool) (s s' : Site X) → p s ≡ p s' → p (cond b s s') ≡ p s'
of_either p true s s' same = same
of_either p false s s' same = refl

pub put_keeps : (byte : ℕ) → Keeps (put_site chip_table byte)
put_keeps byte s ch = of_either (λ z. is_open z.state ch) (hearing s) (puts chip_table s byte) s refl

pub get_keeps : (ack : Bool) → Keeps (get_site chip_table ack)
get_keeps ack s ch = of_either (λ z. is_open z.state ch) (hearing s) (gets chip_table s ack) s (get_open s.state ack ch)

-- a field that a start leaves to whoever is joined
pub start_leaves : {X A : Type 0} (t : Table X) (p : Site X → A) (byte : ℕ) (s : Site X) → p (hears t s (is_reading byte)) ≡ p s
    → p (other t s) ≡ p s
    → p (started t byte s) ≡ p s
start_leaves t p byte s own others =
    of_either p s.joined (cond (is_named byte s) (hears t s (is_reading byte)) (other t s)) s
    (of_either p (is_named byte s) (hears t s (is_reading byte)) (other t s) (own ∙ sym others) ∙ others)

pub start_keeps : (byte : ℕ) → Keeps (started chip_table byte)
start_keeps byte s ch = start_leaves chip_table (λ z. is_open z.state ch) byte s refl refl

-- ---- what is joined hangs on the open channels alone
opens_same : (F : Site ChipView → Site ChipView) → Keeps F → (ch n : ℕ) (cs : List (Site ChipView))
    → option_map_or (λ c. is_open c ch) (slice_get (states_of (map F cs)) n) false
    ≡ option_map_or (λ c. is_open c ch) (slice_get (states_of cs) n) false
opens_same F keeps ch n [] = refl
opens_same F keeps ch zero (c ∷ cs) = keeps c ch
opens_same F keeps ch (suc n) (c ∷ cs) = opens_same F keeps ch n cs

pub all_same : {A : Type 0} (p q : A → Bool) → ((a : A) → p a ≡ q a) → (xs : List A) → list_all p xs ≡ list_all q xs
all_same p q is [] = refl
all_same p q is (x ∷ xs) = ap (λ b. b && list_all p xs) (is x) ∙ ap (λ b. q x && b) (all_same p q is xs)

module _ (b : BoardView) (r : ℕ) (F : Site ChipView → Site ChipView) (G : Site TargetState → Site TargetState) (keeps : Keeps F)
    (cs : List (Site ChipView)) (ds : List (Site TargetState)) where
  abbrev old : World
  old = world_by b r false cs ds

  abbrev new : World
  new = world_by b r false (map F cs) (map G ds)

  joined_same : (s : ℕ) → is_joined new s ≡ is_joined old s
  joined_same s =
      ap (λ x. (root_of b s == r) && x) (all_same (opens_hop new.chips) (opens_hop old.chips) (λ h. opens_same F keeps h.channel h.mux cs)
      (hops b s))

  pub chip_same : (m : ℕ) → joins_chip new m ≡ joins_chip old m
  chip_same m = ap (λ x. has_chip b m && x) (joined_same (home_of_mux b m))

  pub device_same : (d : ℕ) → joins_device new d ≡ joins_device old d
  device_same d = joined_same (of_device (λ x. x.bus) 0 b d)

tells_map : {X A : Type 0} (f f' : ℕ → A) (g : Site X → A) (F : Site X → Site X) → ((m : ℕ) → f' m ≡ f m) → ((s : Site X) → g (F s) ≡ g s)
    → (k : ℕ) (ss : List (Site X)) → Tells f g k ss → Tells f' g k (map F ss)
tells_map f f' g F same keeps k [] is = tt
tells_map f f' g F same keeps k (s ∷ ss) is = (same k ∙ (is.0 ∙ sym (keeps s)), tells_map f f' g F same keeps (k + 1) ss is.1)

pub addresses_kept : (b : BoardView) (F : Site ChipView → Site ChipView) (G : Site TargetState → Site TargetState)
    → ((s : Site ChipView) → (F s).addr ≡ s.addr) → ((s : Site TargetState) → (G s).addr ≡ s.addr)
    → (cs : List (Site ChipView)) (ds : List (Site TargetState)) → HaveAddresses b cs ds → HaveAddresses b (map F cs) (map G ds)
addresses_kept b F G fa ga cs ds is = record {
  chips_at = λ a lt. tells_map _ _ (λ s. a == s.addr) F (λ m. refl) (λ s. ap (λ x. a == x) (fa s)) 0 cs (is.chips_at a lt);
  devices_at = λ a lt. tells_map _ _ (λ s. a == s.addr) G (λ m. refl) (λ s. ap (λ x. a == x) (ga s)) 0 ds (is.devices_at a lt);
}

-- what changes neither channels nor flags nor addresses keeps the sites the world's
pub sites_kept : (b : BoardView) (r : ℕ) (F : Site ChipView → Site ChipView) (G : Site TargetState → Site TargetState) → Keeps F
    → ((s : Site ChipView) → (F s).joined ≡ s.joined) → ((s : Site ChipView) → (F s).addr ≡ s.addr)
    → ((s : Site TargetState) → (G s).joined ≡ s.joined) → ((s : Site TargetState) → (G s).addr ≡ s.addr)
    → (cs : List (Site ChipView)) (ds : List (Site TargetState)) → AreSites b r cs ds → AreSites b r (map F cs) (map G ds)
sites_kept b r F G keeps fj fa gj ga cs ds is = record {
  addresses = addresses_kept b F G fa ga cs ds is.addresses;
  chips_joined = tells_map _ _ (λ s. s.joined) F (chip_same b r F G keeps cs ds) fj 0 cs is.chips_joined;
  devices_joined = tells_map _ _ (λ s. s.joined) G (device_same b r F G keeps cs ds) gj 0 ds is.devices_joined;
}

-- ---- after a stop
tells_joined : {X : Type 0} (f f' : ℕ → Bool) → ((m : ℕ) → f' m ≡ f m) → (k : ℕ) (ss : List (Site X))
    → Tells f' (λ s. s.joined) k (joined_from f k ss)
tells_joined f f' same k [] = tt
tells_joined f f' same k (s ∷ ss) = (same k, tells_joined f f' same (k + 1) ss)

pub joined_states : {X : Type 0} (f : ℕ → Bool) (k : ℕ) (ss : List (Site X)) → states_of (joined_from f k ss) ≡ states_of ss
joined_states f k [] = refl
joined_states f k (s ∷ ss) = ap (λ xs. s.state ∷ xs) (joined_states f (k + 1) ss)

tells_flags : {X A : Type 0} (f : ℕ → A) (g : ℕ → A) (j : ℕ → Bool) (k : ℕ) (ss : List (Site X)) → Tells f (λ s. g s.addr) k ss
    → Tells f (λ s. g s.addr) k (joined_from j k ss)
tells_flags f g j k [] is = tt
tells_flags f g j k (s ∷ ss) is = (is.0, tells_flags f g j (k + 1) ss is.1)

joined_append : (f : ℕ → Bool) (k : ℕ) (xs ys : List (Site NodeState))
    → joined_from f k (xs ++ ys) ≡ joined_from f k xs ++ joined_from f (k + length xs) ys
joined_append f k [] ys = ap (λ n. joined_from f n ys) (omega arith)
joined_append f k (x ∷ xs) ys =
    ap (λ zs. record x { joined = f k; heard = false } ∷ zs)
    (joined_append f (k + 1) xs ys ∙ ap (λ n. joined_from f (k + 1) xs ++ joined_from f n ys) (omega arith))

-- the numbers from here on, where they mean the same
joined_as : {X Y : Type 0} (g : X → Y) (f f' : ℕ → Bool) (k k' : ℕ) (ss : List (Site X)) → ((i : ℕ) → i < length ss
    → f (k + i) ≡ f' (k' + i))
    → joined_from f k (map (site_with g) ss) ≡ map (site_with g) (joined_from f' k' ss)
joined_as g f f' k k' [] same = refl
joined_as g f f' k k' (s ∷ ss) same =
    let here : f k ≡ f' k' = ap f (omega arith) ∙ (same 0 (omega arith) ∙ ap f' (omega arith)) in
    ap (λ z. record (site_with g s) { joined = z; heard = false } ∷ joined_from f (k + 1) (map (site_with g) ss)) here
    ∙ ap (λ zs. record (site_with g s) { joined = f' k'; heard = false } ∷ zs)
    (joined_as g f f' (k + 1) (k' + 1) ss (λ i lt. ap f (omega arith) ∙ (same (i + 1) (omega (arith, lt)) ∙ ap f' (omega arith))))

length_with : {X Y : Type 0} (g : X → Y) (ss : List (Site X)) → length (map (site_with g) ss) ≡ length ss
length_with g [] = refl
length_with g (s ∷ ss) = ap suc (length_with g ss)

below : (k n : ℕ) → k < n → nat_lt k n ≡ true
below k n lt = grind (arith, nat_tests)

above : (k n : ℕ) → n ≤ k → nat_lt k n ≡ false
above k n le = grind (arith, nat_tests)

module _ (b : BoardView) (r : ℕ) (cs : List (Site ChipView)) (ds : List (Site TargetState)) where
  abbrev now : World
  now = world_by b r false cs ds

  mask_is : (k : ℕ) → mask_of b r (both cs ds) k ≡ (if nat_lt k (length cs) then joins_chip now k else joins_device now (k - length cs))
  mask_is k =
      ap (λ xs. if nat_lt k (length xs) then joins_chip (world_by b r false xs (devices_in (both cs ds))) k else joins_device
      (world_by b r false xs (devices_in (both cs ds))) (k - length xs)) (chips_both cs ds)
      ∙ ap (λ ys. if nat_lt k (length cs) then joins_chip (world_by b r false cs ys) k else joins_device (world_by b r false cs ys)
      (k - length cs))
      (devices_both cs ds)

  low_mask : (i : ℕ) → i < length cs → mask_of b r (both cs ds) (0 + i) ≡ joins_chip now (0 + i)
  low_mask i lt =
      mask_is (0 + i)
      ∙ ap (λ z. if z then joins_chip now (0 + i) else joins_device now ((0 + i) - length cs))
      (below (0 + i) (length cs) (omega (arith, lt)))

  high_mask : (n i : ℕ) → n ≡ length cs → mask_of b r (both cs ds) (n + i) ≡ joins_device now (0 + i)
  high_mask n i is =
      mask_is (n + i)
      ∙ (ap (λ z. if z then joins_chip now (n + i) else joins_device now ((n + i) - length cs))
      (above (n + i) (length cs) (omega (arith, is)))
      ∙ ap (joins_device now) (omega (arith, is)))

  -- what is joined is read anew
  pub rejoin_both : rejoin (mask_of b r) (both cs ds) ≡ both (chips_anew b r cs ds) (devices_anew b r cs ds)
  rejoin_both =
      joined_append (mask_of b r (both cs ds)) 0 (map (site_with Chip) cs) (map (site_with Device) ds)
      ∙ (ap (λ xs. xs ++ joined_from (mask_of b r (both cs ds)) (0 + length (map (site_with Chip) cs)) (map (site_with Device) ds))
      (joined_as Chip _ (joins_chip now) 0 0 cs low_mask)
      ∙ ap (λ ys. map (site_with Chip) (chips_anew b r cs ds) ++ ys)
      (joined_as Device _ (joins_device now) _ 0 ds (λ i lt. high_mask (0 + length (map (site_with Chip) cs)) i
      (omega (arith, length_with Chip cs)))))

  -- no state is changed by that, and the sites are again the world's
  chips_stay : states_of (chips_anew b r cs ds) ≡ states_of cs
  chips_stay = joined_states (joins_chip now) 0 cs

  joined_again : (s : ℕ) → is_joined (world_by b r false (chips_anew b r cs ds) (devices_anew b r cs ds)) s ≡ is_joined now s
  joined_again s = ap (λ xs. (root_of b s == r) && list_all (opens_hop xs) (hops b s)) chips_stay

  pub sites_anew : HaveAddresses b cs ds → AreSites b r (chips_anew b r cs ds) (devices_anew b r cs ds)
  sites_anew is = record {
    addresses = record {
      chips_at = λ a lt. tells_flags _ (λ x. a == x) (joins_chip now) 0 cs (is.chips_at a lt);
      devices_at = λ a lt. tells_flags _ (λ x. a == x) (joins_device now) 0 ds (is.devices_at a lt);
    };
    chips_joined = tells_joined (joins_chip now) _ (λ m. ap (λ x. has_chip b m && x) (joined_again (home_of_mux b m))) 0 cs;
    devices_joined = tells_joined (joins_device now) _ (λ d. joined_again (of_device (λ x. x.bus) 0 b d)) 0 ds;
  }

-- The sites of a root are its world's as the board is opened, and a call is to them what it is to the world.
use Rattle.wire_spec.proofs.Cited.{◌≡◌, ℕ, suc, ◌+◌, ◌/◌, ◌<◌, Bool, true, false, cond, List, [], ◌∷◌, ◌++◌, map, length, Option, Some}
use Rattle.wire_spec.proofs.Cited.{None, refl, ap, sym, ◌∙◌, arith, zero, ◌==◌, ◌&&◌, slice_get, if◌then◌else◌, option_map_or, nat_tests}
use Rattle.wire_spec.proofs.Cited.{Node, BoardView, ChipView, chip_table, TargetState, state_table, IsFairTable, Site, hears, other, puts}
use Rattle.wire_spec.proofs.Cited.{gets, is_named, is_reading, hearing, put_site, get_site, stop_site, started, joined_from, rejoin, Chip}
use Rattle.wire_spec.proofs.Cited.{Device, node_table, site_with, names_of, states_of, world_by, Tells, HaveAddresses, AreSites, mask_of}
use Rattle.wire_spec.proofs.Cited.{both}
use Rattle.std.specs.Prelude.{slice_set, unwrap_or}
use Rattle.std.specs.Option.{option_map}
use Rattle.i2c_base.specs.declared.ids.Node.TheVariants as node
use Rattle.i2c_base.specs.declared.board.MuxSpec.{MuxSpec}
use Rattle.i2c_base.specs.Board.{DeviceView}
use Rattle.i2c_spec.specs.Chips.{chip_opening, at_level}
use Rattle.i2c_spec.specs.Targets.{opening_state}
use Rattle.i2c_spec.specs.Grant.{has_address}
use Rattle.i2c_spec.specs.World.{set_level}
use Rattle.wire_spec.specs.Wires.{stops}
use Rattle.wire_spec.specs.Sites.{NO_ADDRESS, chip_site, device_site, opened_chips, opened_devices}
use Rattle.wire_spec.specs.WorldLaws.{PartsOfBoth, OpenedSites, PutOnSites, GetOnSites, StartOnSites, StopOnSites, LineOnSites, levelled}
use Rattle.wire_spec.specs.WorldLaws.{stopped_chips, stopped_devices}
use Rattle.wire_spec.proofs.WorldLemmas.{chips_both, devices_both, sites_both, world_ap, world_put, world_takes, world_get, world_gives}
use Rattle.wire_spec.proofs.WorldLemmas.{world_start, world_stop, stop_hears, no_names}
use Rattle.wire_spec.proofs.SiteLemmas.{of_either, put_keeps, get_keeps, start_keeps, start_leaves, sites_kept, addresses_kept}
use Rattle.wire_spec.proofs.SiteLemmas.{joined_states, rejoin_both, sites_anew}
use Rattle.wire_spec.proofs.StartLemmas.{start_answer}

pub parts_of_both : (cs : List (Site ChipView)) (ds : List (Site TargetState)) → PartsOfBoth cs ds
parts_of_both cs ds = record { chips = chips_both cs ds; devices = devices_both cs ds }

-- ---- as the board is opened
tells_at : {A B X : Type 0} (g : A → Site X) (value : Option A → B) (v : Site X → B) → ((x : A) → value (Some x) ≡ v (g x))
    → (f : ℕ → Option A) (k : ℕ) (xs : List A)
    → ((i : ℕ) → i < length xs → f (k + i) ≡ slice_get xs i) → Tells (λ n. value (f n)) v k (map g xs)
tells_at g value v is f k [] same = tt
tells_at g value v is f k (x ∷ xs) same = (
  ap value (ap f (omega arith) ∙ same 0 (omega arith)) ∙ is x,
  tells_at g value v is f (k + 1) xs (λ i lt. ap f (omega arith) ∙ same (suc i) (omega (arith, lt))),
)

same_number : (x a : ℕ) → (x == a) ≡ (a == x)
same_number x a = grind (arith, nat_tests)

no_number : (a : ℕ) → a < 128 → false ≡ (a == 128)
no_number a lt = grind (arith, nat_tests)

chip_at : (a : ℕ) → a < 128 → (addr : Option ℕ) → has_address a addr ≡ (a == unwrap_or addr NO_ADDRESS)
chip_at a lt None = no_number a lt
chip_at a lt (Some x) = same_number x a

module _ (b : BoardView) (r : ℕ) where
  opened_addresses : HaveAddresses b (map chip_site b.muxes) (map device_site b.devices)
  opened_addresses = record {
    chips_at = λ a lt. tells_at chip_site (λ o. has_address a (unwrap_or (option_map (λ (m : MuxSpec). m.addr) o) None)) (λ s. a == s.addr)
        (λ m. chip_at a lt m.addr) (slice_get b.muxes) 0 b.muxes (λ i low. ap (slice_get b.muxes) (omega arith));
    devices_at = λ a lt. tells_at device_site (λ o. unwrap_or (option_map (λ (d : DeviceView). d.addr == a) o) false) (λ s. a == s.addr)
        (λ d. same_number d.addr a) (slice_get b.devices) 0 b.devices (λ i low. ap (slice_get b.devices) (omega arith));
  }

  pub opened_are : AreSites b r (opened_chips b r) (opened_devices b r)
  opened_are = sites_anew b r (map chip_site b.muxes) (map device_site b.devices) opened_addresses

states_with : {A X : Type 0} (g : A → Site X) (h : A → X) → ((a : A) → (g a).state ≡ h a) → (xs : List A) → states_of (map g xs) ≡ map h xs
states_with g h is [] = refl
states_with g h is (x ∷ xs) = ap (λ y. y ∷ states_of (map g xs)) (is x) ∙ ap (λ ys. h x ∷ ys) (states_with g h is xs)

none_hears : (b : Bool) (n : Node) (ns : List Node) → (if b && false then n ∷ ns else ns) ≡ ns
none_hears true n ns = refl
none_hears false n ns = refl

-- nobody is in a message where who is joined was read anew
no_names_anew : {X : Type 0} (name : ℕ → Node) (joins : ℕ → Bool) (j k : ℕ) (ss : List (Site X))
    → names_of name k (joined_from joins j ss) ≡ []
no_names_anew name joins j k [] = refl
no_names_anew name joins j k (s ∷ ss) =
    none_hears (joins j) (name k) (names_of name (k + 1) (joined_from joins (j + 1) ss)) ∙ no_names_anew name joins (j + 1) (k + 1) ss

-- the world of sites that were read anew
world_anew : (b : BoardView) (r : ℕ) (f g : ℕ → Bool) (cs : List (Site ChipView)) (ds : List (Site TargetState)) (chips : List ChipView)
    (devices : List TargetState) → states_of cs ≡ chips → states_of ds ≡ devices
    → world_by b r false (joined_from f 0 cs) (joined_from g 0 ds)
    ≡ record { board = b; root = r; chips = chips; devices = devices; hearing = []; busy = false }
world_anew b r f g cs ds chips devices c d =
    world_ap b r false _ _ _ _ _ _ (joined_states f 0 cs ∙ c) (joined_states g 0 ds ∙ d)
    (ap (λ ns. ns ++ names_of node.Device 0 (joined_from g 0 ds)) (no_names_anew node.Chip f 0 0 cs) ∙ no_names_anew node.Device g 0 0 ds)

pub opened_sites : (b : BoardView) (r : ℕ) → OpenedSites b r
opened_sites b r = record {
  are = opened_are b r;
  world =
      world_anew b r _ _ (map chip_site b.muxes) (map device_site b.devices) _ _ (states_with chip_site chip_opening (λ m. refl) b.muxes)
      (states_with device_site opening_state (λ d. refl) b.devices);
}

-- ---- what is done to a chip or a device is done to it as one of both
pub with_either : {X Y : Type 0} (f : X → Y) (b : Bool) (x x' : X) → cond b (f x) (f x') ≡ f (cond b x x')
with_either f true x x' = refl
with_either f false x x' = refl

module _ (byte : ℕ) where
  put_chip : (s : Site ChipView) → put_site node_table byte (site_with Chip s) ≡ site_with Chip (put_site chip_table byte s)
  put_chip s = with_either (site_with Chip) (hearing s) (puts chip_table s byte) s

  put_device : (s : Site TargetState) → put_site node_table byte (site_with Device s) ≡ site_with Device (put_site state_table byte s)
  put_device s = with_either (site_with Device) (hearing s) (puts state_table s byte) s

  start_chip : (s : Site ChipView) → started node_table byte (site_with Chip s) ≡ site_with Chip (started chip_table byte s)
  start_chip s =
      ap (λ z. cond s.joined z (site_with Chip s))
      (with_either (site_with Chip) (is_named byte s) (hears chip_table s (is_reading byte)) (other chip_table s))
      ∙ with_either (site_with Chip) s.joined _ s

  start_device : (s : Site TargetState) → started node_table byte (site_with Device s) ≡ site_with Device (started state_table byte s)
  start_device s =
      ap (λ z. cond s.joined z (site_with Device s))
      (with_either (site_with Device) (is_named byte s) (hears state_table s (is_reading byte)) (other state_table s))
      ∙ with_either (site_with Device) s.joined _ s

module _ (ack : Bool) where
  get_chip : (s : Site ChipView) → get_site node_table ack (site_with Chip s) ≡ site_with Chip (get_site chip_table ack s)
  get_chip s = with_either (site_with Chip) (hearing s) (gets chip_table s ack) s

  get_device : (s : Site TargetState) → get_site node_table ack (site_with Device s) ≡ site_with Device (get_site state_table ack s)
  get_device s = with_either (site_with Device) (hearing s) (gets state_table s ack) s

stop_chip : (s : Site ChipView) → stop_site node_table (site_with Chip s) ≡ site_with Chip (stop_site chip_table s)
stop_chip s = with_either (site_with Chip) s.joined (stops chip_table s) s

stop_device : (s : Site TargetState) → stop_site node_table (site_with Device s) ≡ site_with Device (stop_site state_table s)
stop_device s = with_either (site_with Device) s.joined (stops state_table s) s

-- ---- a byte that is put, and one that is read
pub put_on_sites : (b : BoardView) (r : ℕ) (busy : Bool) (byte : ℕ) (cs : List (Site ChipView)) (ds : List (Site TargetState))
    → PutOnSites b r busy byte cs ds
put_on_sites b r busy byte cs ds = record {
  parts = sites_both (put_site node_table byte) (put_site chip_table byte) (put_site state_table byte) (put_chip byte)
      (put_device byte) cs ds;
  kept = λ is. sites_kept b r (put_site chip_table byte) (put_site state_table byte) (put_keeps byte)
      (λ s. of_either (λ z. z.joined) (hearing s) (puts chip_table s byte) s refl)
      (λ s. of_either (λ z. z.addr) (hearing s) (puts chip_table s byte) s refl)
      (λ s. of_either (λ z. z.joined) (hearing s) (puts state_table s byte) s refl)
      (λ s. of_either (λ z. z.addr) (hearing s) (puts state_table s byte) s refl) cs ds is;
  world = world_put b r busy cs ds byte;
  answered = world_takes b r busy cs ds byte;
}

pub get_on_sites : IsFairTable chip_table → IsFairTable state_table
    → (b : BoardView) (r : ℕ) (busy ack : Bool) (cs : List (Site ChipView)) (ds : List (Site TargetState)) → GetOnSites b r busy ack cs ds
get_on_sites chips devices b r busy ack cs ds = record {
  parts = sites_both (get_site node_table ack) (get_site chip_table ack) (get_site state_table ack) (get_chip ack) (get_device ack) cs ds;
  kept = λ is. sites_kept b r (get_site chip_table ack) (get_site state_table ack) (get_keeps ack)
      (λ s. of_either (λ z. z.joined) (hearing s) (gets chip_table s ack) s refl)
      (λ s. of_either (λ z. z.addr) (hearing s) (gets chip_table s ack) s refl)
      (λ s. of_either (λ z. z.joined) (hearing s) (gets state_table s ack) s refl)
      (λ s. of_either (λ z. z.addr) (hearing s) (gets state_table s ack) s refl) cs ds is;
  world = world_get b r busy cs ds ack;
  answered = world_gives b r busy cs ds chips devices;
}

-- ---- a start, and a stop
pub start_parts : (byte : ℕ) (cs : List (Site ChipView)) (ds : List (Site TargetState))
    → map (started node_table byte) (both cs ds) ≡ both (map (started chip_table byte) cs) (map (started state_table byte) ds)
start_parts byte cs ds =
    sites_both (started node_table byte) (started chip_table byte) (started state_table byte) (start_chip byte) (start_device byte) cs ds

pub stop_parts : (b : BoardView) (r : ℕ) (cs : List (Site ChipView)) (ds : List (Site TargetState))
    → rejoin (mask_of b r) (map (stop_site node_table) (both cs ds)) ≡ both (stopped_chips b r cs ds) (stopped_devices b r cs ds)
stop_parts b r cs ds =
    ap (rejoin (mask_of b r)) (sites_both (stop_site node_table) (stop_site chip_table) (stop_site state_table) stop_chip stop_device cs ds)
    ∙ rejoin_both b r (map (stop_site chip_table) cs) (map (stop_site state_table) ds)

pub start_on_sites : IsFairTable chip_table → IsFairTable state_table
    → (b : BoardView) (r : ℕ) (busy : Bool) (byte : ℕ) (cs : List (Site ChipView)) (ds : List (Site TargetState))
    → byte / 2 < 128 → AreSites b r cs ds → StartOnSites b r busy byte cs ds
start_on_sites chips devices b r busy byte cs ds lt is = record {
  parts = start_parts byte cs ds;
  kept = sites_kept b r (started chip_table byte) (started state_table byte) (start_keeps byte)
      (λ s. start_leaves chip_table (λ z. z.joined) byte s refl refl) (λ s. start_leaves chip_table (λ z. z.addr) byte s refl refl)
      (λ s. start_leaves state_table (λ z. z.joined) byte s refl refl) (λ s. start_leaves state_table
      (λ z. z.addr) byte s refl refl) cs ds is;
  world = world_start b r busy cs ds is chips devices (byte / 2) (is_reading byte) lt;
  answered = start_answer b r busy cs ds is chips devices byte lt;
}

pub stop_on_sites : (b : BoardView) (r : ℕ) (busy : Bool) (cs : List (Site ChipView)) (ds : List (Site TargetState)) → AreSites b r cs ds
    → StopOnSites b r busy cs ds
stop_on_sites b r busy cs ds is =
    let cs' : List (Site ChipView) = map (stop_site chip_table) cs in
    let ds' : List (Site TargetState) = map (stop_site state_table) ds in
    let quiet : names_of node.Chip 0 cs' ++ names_of node.Device 0 ds' ≡ [] =
    ap (λ ns. ns ++ names_of node.Device 0 ds')
    (no_names (stop_site chip_table) node.Chip (λ s. stop_hears chip_table s.addr s.joined s.heard s.state) 0 cs)
    ∙ no_names (stop_site state_table) node.Device (λ s. stop_hears state_table s.addr s.joined s.heard s.state) 0 ds in
    record {
      parts = stop_parts b r cs ds;
      kept = sites_anew b r cs' ds' (addresses_kept b (stop_site chip_table) (stop_site state_table)
          (λ s. of_either (λ z. z.addr) s.joined (stops chip_table s) s refl)
          (λ s. of_either (λ z. z.addr) s.joined (stops state_table s) s refl) cs ds is.addresses);
      world = world_anew b r _ _ cs' ds' _ _ refl refl ∙ (world_ap b r false _ _ _ _ _ _ refl refl (sym quiet)
          ∙ world_stop b r busy cs ds is);
    }

-- ---- the line of a mux
set_next : (xs : List ChipView) (x : ChipView) (m level : ℕ) (o : Option ChipView)
    → option_map_or (λ c. x ∷ slice_set xs m (at_level c level)) o (x ∷ xs) ≡ x ∷ option_map_or
    (λ c. slice_set xs m (at_level c level)) o xs
set_next xs x m level None = refl
set_next xs x m level (Some c) = refl

states_levelled : (m level : ℕ) (cs : List (Site ChipView)) → states_of (levelled m level cs) ≡ set_level (states_of cs) m level
states_levelled m level [] = refl
states_levelled zero level (c ∷ cs) = refl
states_levelled (suc m) level (c ∷ cs) =
    ap (λ xs. c.state ∷ xs) (states_levelled m level cs) ∙ sym (set_next (states_of cs) c.state m level (slice_get (states_of cs) m))

tells_levelled : {A : Type 0} (f : ℕ → A) (g : ℕ → A) (m level k : ℕ) (cs : List (Site ChipView)) → Tells f (λ s. g s.addr) k cs
    → Tells f (λ s. g s.addr) k (levelled m level cs)
tells_levelled f g m level k [] is = tt
tells_levelled f g zero level k (c ∷ cs) is = is
tells_levelled f g (suc m) level k (c ∷ cs) is = (is.0, tells_levelled f g m level (k + 1) cs is.1)

pub line_on_sites : (b : BoardView) (r m level : ℕ) (cs : List (Site ChipView)) (ds : List (Site TargetState)) → AreSites b r cs ds
    → (world_by b r false cs ds).hearing ≡ [] → LineOnSites b r m level cs ds
line_on_sites b r m level cs ds is quiet = record {
  kept = sites_anew b r (levelled m level cs) ds
      (record {
        chips_at = λ a lt. tells_levelled _ (λ x. a == x) m level 0 cs (is.addresses.chips_at a lt);
        devices_at =
            is.addresses.devices_at;
      });
  world = world_anew b r _ _ (levelled m level cs) ds _ _ (states_levelled m level cs) refl
      ∙ world_ap b r false _ _ _ _ _ _ refl refl (sym quiet);
}

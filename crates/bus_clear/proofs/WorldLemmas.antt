-- The world that a cut read and bus clear after it leave.
use Rattle.bus_clear.proofs.Cited.{◌≡◌, ℕ, ◌+◌, ◌/◌, Bool, true, false, cond, List, [], ◌∷◌, map, refl, ap, sym, ◌∙◌, subst, AllByRecursion}
use Rattle.bus_clear.proofs.Cited.{BoardView, Table, ChipView, chip_table, TargetState, state_table, HoldsBytes, KeepsBytes, IsQuiet}
use Rattle.bus_clear.proofs.Cited.{IsFairTable, World, after, Out, Site, hears, other, is_named, is_reading, hearing, get_site, stop_site}
use Rattle.bus_clear.proofs.Cited.{Seen, Bus, started, free, rejoin, NodeState, node_table, both, AreSites, mask_of, PartsOfBoth}
use Rattle.bus_clear.proofs.Cited.{StartOnSites, GetOnSites, StopOnSites, Rooted, IsFree, chips_on, devices_on, world_at, IsQuietWorld}
use Rattle.i2c_base.specs.declared.event.Event.TheVariants.{Get, Stop}
use Rattle.i2c_base.specs.declared.port.PortCall.TheVariants as call
use Rattle.i2c_spec.specs.World.{feed, given, stop_event, joins_chip, joins_device}
use Rattle.wire_spec.specs.Wires.{gets, stops}
use Rattle.wire_spec.specs.Calls.{joined_from}
use Rattle.wire_spec.specs.Sites.{states_of, world_by}
use Rattle.wire_spec.specs.WorldLaws.{stopped_chips, stopped_devices}
use Rattle.i2c_bits.specs.Stands.{AreTold}
use Rattle.i2c_bits.proofs.Told.{On, on_lines, world_on, all_kept, kept_where}
use Rattle.i2c_bits.proofs.Starts.{started_bytes}
use Rattle.i2c_bits.proofs.Stops.{all_joined, free_on}
use Rattle.i2c_base.proofs.Booleans.{and_first}

-- ---- who is quiet stays so
quiet_state : {X : Type 0} (t : Table X) → IsFairTable t → (s : Site X) (joined : Bool) → s.joined ≡ joined
    → (s.joined ≡ false → IsQuiet t s.state) → IsQuiet t (stop_site t s).state
quiet_state t fair s true is rest = subst (λ (j : Bool). IsQuiet t (cond j (stops t s) s).state) (sym is) (fair.stops s.state)
quiet_state t fair s false is rest = subst (λ (j : Bool). IsQuiet t (cond j (stops t s) s).state) (sym is) (rest is)

-- all that isn't joined is quiet
abbrev pub RestIsQuiet : {X : Type 0} → Table X → List (Site X) → Type 0
RestIsQuiet {X} t ss = AllByRecursion (λ (s : Site X). s.joined ≡ false → IsQuiet t s.state) ss

quiet_stopped : {X : Type 0} (t : Table X) → IsFairTable t → (f : ℕ → Bool) (n : ℕ) (ss : List (Site X)) → RestIsQuiet t ss
    → AllByRecursion (IsQuiet t) (states_of (joined_from f n (map (stop_site t) ss)))
quiet_stopped t fair f n [] all = tt
quiet_stopped t fair f n (s ∷ ss) all = (quiet_state t fair s s.joined refl all.0, quiet_stopped t fair f (n + 1) ss all.1)

pub rest_of : {X : Type 0} (t : Table X) (ss : List (Site X)) → AllByRecursion (IsQuiet t) (states_of ss) → RestIsQuiet t ss
rest_of t [] all = tt
rest_of t (s ∷ ss) all = ((λ out. all.0), rest_of t ss all.1)

quiet_cond : {X : Type 0} (t : Table X) (s u : Site X) (b : Bool) → u.joined ≡ s.joined → (b ≡ true → s.joined ≡ true)
    → (s.joined ≡ false → IsQuiet t s.state) → (cond b u s).joined ≡ false → IsQuiet t (cond b u s).state
quiet_cond t s u true same only rest out = let p : true ≡ false = sym (only refl) ∙ (sym same ∙ out) in cc
quiet_cond t s u false same only rest out = rest out

kept_joined : {X : Type 0} (t : Table X) (byte : ℕ) (s : Site X) (b : Bool)
    → (cond b (hears t s (is_reading byte)) (other t s)).joined ≡ s.joined
kept_joined t byte s true = refl
kept_joined t byte s false = refl

rest_started : {X : Type 0} (t : Table X) (byte : ℕ) (ss : List (Site X)) → RestIsQuiet t ss → RestIsQuiet t (map (started t byte) ss)
rest_started t byte [] all = tt
rest_started t byte (s ∷ ss) all = (
  quiet_cond t s (cond (is_named byte s) (hears t s (is_reading byte)) (other t s)) s.joined (kept_joined t byte s (is_named byte s))
      (λ is. is) all.0,
  rest_started t byte ss all.1,
)

rest_got : {X : Type 0} (t : Table X) (ack : Bool) (ss : List (Site X)) → RestIsQuiet t ss → RestIsQuiet t (map (get_site t ack) ss)
rest_got t ack [] all = tt
rest_got t ack (s ∷ ss) all = (
  quiet_cond t s (gets t s ack) (hearing s) refl (and_first s.joined s.heard) all.0,
  rest_got t ack ss all.1,
)

-- ---- a stop changes nothing where all are quiet
stop_one : {X : Type 0} (t : Table X) (x : X) (b : Bool) → IsQuiet t x → given t (stop_event b) x ≡ x
stop_one t x true quiet = quiet.stop
stop_one t x false quiet = refl

stop_feeds : {X : Type 0} (t : Table X) (joins : ℕ → Bool) (k : ℕ) (xs : List X) → AllByRecursion (IsQuiet t) xs
    → feed t (λ n. stop_event (joins n)) k xs ≡ xs
stop_feeds t joins k [] all = refl
stop_feeds t joins k (x ∷ xs) all =
    ap (λ y. y ∷ feed t (λ n. stop_event (joins n)) (k + 1) xs) (stop_one t x (joins k) all.0)
    ∙ ap (λ ys. x ∷ ys) (stop_feeds t joins (k + 1) xs all.1)

pub stop_again : (v : World) → IsQuietWorld (after v call.Stop) → after (after v call.Stop) call.Stop ≡ after v call.Stop
stop_again v quiet =
    let w : World = after v call.Stop in
    ap (λ cs. record w { chips = cs; devices = feed state_table (λ d. stop_event (joins_device w d)) 0 w.devices })
    (stop_feeds chip_table (joins_chip w) 0 w.chips quiet.chips)
    ∙ ap (λ ds. record w { devices = ds }) (stop_feeds state_table (joins_device w) 0 w.devices quiet.devices)

-- ---- the sites that a stop finds, and the world that they are
pub record Found (k : Rooted) (gs : List (Site NodeState)) (v : World) : Type 0 where
  pub busy : Bool
  pub chips : List (Site ChipView)
  pub devices : List (Site TargetState)
  pub parts : gs ≡ both chips devices
  pub told : AreTold k chips devices
  pub world : v ≡ world_by k.board k.root busy chips devices
  pub rest_chips : RestIsQuiet chip_table chips
  pub rest_devices : RestIsQuiet state_table devices

-- and the lines after it
pub record Left (k : Rooted) (w : Bus NodeState) (v : World) : Type 0 where
  pub free : IsFree k w
  pub world : world_at k false w ≡ v
  pub quiet : IsQuietWorld v

module _ (parts : (cs : List (Site ChipView)) (ds : List (Site TargetState)) → PartsOfBoth cs ds)
    (keeps : KeepsBytes state_table HoldsBytes)
    (fair_chips : IsFairTable chip_table) (fair_devices : IsFairTable state_table)
    (sites : (b : BoardView) (r : ℕ) (busy : Bool) (cs : List (Site ChipView)) (ds : List (Site TargetState))
    → AreSites b r cs ds → StopOnSites b r busy cs ds) (k : Rooted) where
  -- the sites and the world after a stop
  module _ (gs : List (Site NodeState)) (v : World) (f : Found k gs v) where
    abbrev chips : List (Site ChipView)
    chips = stopped_chips k.board k.root f.chips f.devices

    abbrev devices : List (Site TargetState)
    devices = stopped_devices k.board k.root f.chips f.devices

    site : StopOnSites k.board k.root f.busy f.chips f.devices
    site = sites k.board k.root f.busy f.chips f.devices f.told.sites

    sites_are : rejoin (mask_of k.board k.root) (map (stop_site node_table) gs) ≡ both chips devices
    sites_are = ap (λ xs. rejoin (mask_of k.board k.root) (map (stop_site node_table) xs)) f.parts ∙ site.parts

    world_is : world_by k.board k.root false chips devices ≡ after v call.Stop
    world_is = site.world ∙ ap (λ x. after x call.Stop) (sym f.world)

    told : AreTold k chips devices
    told = record {
      sites = site.kept;
      bytes = all_joined _ 0 (map (stop_site state_table) f.devices) (all_kept (stop_site state_table)
          (λ s old. kept_where s.joined s (stops state_table s) old (λ was. keeps.after s.state Stop tt was)) f.devices f.told.bytes);
    }

    quiet_by : IsQuietWorld (world_by k.board k.root false chips devices)
    quiet_by = record {
      chips = quiet_stopped chip_table fair_chips _ 0 f.chips f.rest_chips;
      devices = quiet_stopped state_table fair_devices _ 0 f.devices f.rest_devices;
    }

    pub stop_quiet : IsQuietWorld (after v call.Stop)
    stop_quiet = subst IsQuietWorld world_is quiet_by

    pub found_again : Found k (rejoin (mask_of k.board k.root) (map (stop_site node_table) gs)) (after v call.Stop)
    found_again = record {
      busy = false;
      chips = chips;
      devices = devices;
      parts = sites_are;
      told = told;
      world = sym world_is;
      rest_chips = rest_of chip_table chips quiet_by.chips;
      rest_devices = rest_of state_table devices quiet_by.devices;
    }

    pub left_by : (w : Bus NodeState) (c : Seen) → w ≡ free (rejoin (mask_of k.board k.root) (map (stop_site node_table) gs)) c
        → Left k w (after v call.Stop)
    left_by w c is =
        let e : w ≡ free (both chips devices) c = is ∙ ap (λ xs. free xs c) sites_are in
        let on : On w chips devices = on_lines parts w chips devices Out (ap (λ x. x.targets) e) in
        let world : world_at k false w ≡ after v call.Stop = world_on k false w chips devices on ∙ world_is in
        record {
          free = free_on k w c chips devices on e told (ap (λ x. x.hearing) world);
          world = world;
          quiet = subst IsQuietWorld world_is quiet_by;
        }

-- ---- free lines, a start on them, and the controller's answer
abbrev pub free_found : (k : Rooted) (w : Bus NodeState) → IsFree k w → IsQuietWorld (world_at k false w)
    → Found k (both (chips_on w) (devices_on w)) (world_at k false w)
free_found k w is quiet = record {
  busy = false;
  chips = chips_on w;
  devices = devices_on w;
  parts = refl;
  told = is.told;
  world = refl;
  rest_chips = rest_of chip_table (chips_on w) quiet.chips;
  rest_devices = rest_of state_table (devices_on w) quiet.devices;
}

pub start_found : KeepsBytes state_table HoldsBytes → (k : Rooted) (byte : ℕ) (gs : List (Site NodeState)) (v : World) (f : Found k gs v)
    → StartOnSites k.board k.root f.busy byte f.chips f.devices
    → Found k (map (started node_table byte) gs) (after v (call.Start (byte / 2) (is_reading byte)))
start_found keeps k byte gs v f site = record {
  busy = true;
  chips = map (started chip_table byte) f.chips;
  devices = map (started state_table byte) f.devices;
  parts = ap (map (started node_table byte)) f.parts ∙ site.parts;
  told = record { sites = site.kept; bytes = started_bytes keeps byte f.devices f.told.bytes };
  world = ap (λ x. after x (call.Start (byte / 2) (is_reading byte))) f.world ∙ sym site.world;
  rest_chips = rest_started chip_table byte f.chips f.rest_chips;
  rest_devices = rest_started state_table byte f.devices f.rest_devices;
}

pub get_found : KeepsBytes state_table HoldsBytes → (k : Rooted) (ack : Bool) (gs : List (Site NodeState)) (v : World) (f : Found k gs v)
    → GetOnSites k.board k.root f.busy ack f.chips f.devices
    → Found k (map (get_site node_table ack) gs) (after v (call.Get ack))
get_found keeps k ack gs v f site = record {
  busy = f.busy;
  chips = map (get_site chip_table ack) f.chips;
  devices = map (get_site state_table ack) f.devices;
  parts = ap (map (get_site node_table ack)) f.parts ∙ site.parts;
  told = record {
    sites = site.kept f.told.sites;
    bytes = all_kept (get_site state_table ack)
        (λ s old. kept_where (hearing s) s (gets state_table s ack) old (λ was. keeps.after s.state (Get ack) tt was)) f.devices
        f.told.bytes;
  };
  world = ap (λ x. after x (call.Get ack)) f.world ∙ sym site.world;
  rest_chips = rest_got chip_table ack f.chips f.rest_chips;
  rest_devices = rest_got state_table ack f.devices f.rest_devices;
}

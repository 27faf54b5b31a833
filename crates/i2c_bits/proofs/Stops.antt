-- A stop, and the line of a mux, and what they come to on told lines.
use Rattle.std.proofs.Common.{◌≡◌, ℕ, zero, suc, ◌+◌, ◌<◌, ◌/◌, Bool, true, false, cond, List, [], ◌∷◌, map, refl, ap, sym, ◌∙◌, arith}
use Rattle.std.proofs.Common.{subst, inl, inr}
use Rattle.std.specs.Prelude.{◌&&◌, Result, Ok, Err}
use Rattle.std.specs.List.{AllByRecursion}
use Rattle.i2c_base.specs.Board.{BoardView}
use Rattle.i2c_base.specs.Table.{Table}
use Rattle.i2c_base.specs.declared.event.Event.TheVariants.{Stop}
use Rattle.i2c_base.specs.declared.port.PortCall.TheVariants as call
use Rattle.i2c_spec.specs.Chips.{ChipView, chip_table}
use Rattle.i2c_spec.specs.Targets.{TargetState, state_table, HoldsBytes, KeepsBytes}
use Rattle.i2c_spec.specs.World.{after}
use Rattle.wire_spec.specs.declared.mode.Mode.{Mode}
use Rattle.wire_spec.specs.declared.mode.Mode.TheVariants.{Out, In}
use Rattle.wire_spec.specs.Wires.{Site, Bit, LOOKS, shifted, stops}
use Rattle.wire_spec.specs.Roots.{some_one, at, hearing, stop_site}
use Rattle.wire_spec.specs.Bus.{Seen, Level, Started, Stopped, Bus, Came, Mask, came_up, gave_up, await, pulled, rejoin_from, rejoined, bus_of}
use Rattle.wire_spec.specs.Started.{started, stays}
use Rattle.wire_spec.specs.Calls.{STOP_LOOKS, free, joined_from, rejoin, stopped, stop_pulls, slow_stop}
use Rattle.wire_spec.specs.Sites.{NodeState, Chip, Device, node_table, site_with, both, world_by, mask_of, AreSites, NO_ADDRESS, chips_anew}
use Rattle.wire_spec.specs.Sites.{devices_anew}
use Rattle.wire_spec.specs.WorldLaws.{PartsOfBoth, StartOnSites, StopOnSites, LineOnSites, stopped_chips, stopped_devices, levelled}
use Rattle.wire_spec.specs.CallLaws.{StopOnWires, StopAfterSlowOnWires}
use Rattle.wire_spec.proofs.SiteLemmas.{rejoin_both}
use Rattle.i2c_bits.specs.Wiring.{Rooted, the_table, mask_at, came_stop, levelled_bits, lined}
use Rattle.i2c_bits.specs.Showing.{StopShows}
use Rattle.i2c_bits.specs.Stands.{AreTold, StandsIn, IsFree, IsLate, MayEnd, StopIs, StopTold, LineIs, chips_on, devices_on, world_at}
use Rattle.i2c_bits.specs.declared.lines.SclTimeout.{SclTimeout}
use Rattle.i2c_bits.proofs.Told.{On, on_lines, world_on, told_on, all_kept, kept_where, sites_map}
use Rattle.i2c_bits.proofs.Starts.{on_late, started_bytes}

-- ---- pulls and looks
module _ (t : Table NodeState) (k k1 : Rooted) (w w1 w2 : Bus NodeState) (same : k1 ≡ k) (f : w2 ≡ pulled t
    (mask_at k1) w1 false false) where
  closes : (c : Came NodeState) → c ≡ await t 0 STOP_LOOKS (pulled t (mask_at k) w false true) → c.bus ≡ w1
      → ◌≡◌ {A = Bool × Bus NodeState} (c.up, w2) (slow_stop t (mask_at k) w)
  closes c e is =
      ap (λ (x : Bus NodeState). (c.up, x))
      (f ∙ (ap (λ m. pulled t (mask_at m) w1 false false) same ∙ ap (λ x. pulled t (mask_at k) x false false) (sym is)))
      ∙ ap (stopped t (mask_at k)) e

  pub stop_up : (level : Bool) → came_up (shifted 0 level) w1 ≡ await t 0 STOP_LOOKS (pulled t (mask_at k) w false true)
      → ◌≡◌ {A = Bool × Bus NodeState} (true, w2) (slow_stop t (mask_at k) w)
  stop_up level e = closes (came_up (shifted 0 level) w1) e refl

  pub stop_low : gave_up w1 ≡ await t 0 STOP_LOOKS (pulled t (mask_at k) w false true)
      → ◌≡◌ {A = Bool × Bus NodeState} (false, w2) (slow_stop t (mask_at k) w)
  stop_low e = closes (gave_up w1) e refl

pub pulled_first : (t : Table NodeState) (k k1 : Rooted) (w w1 w2 : Bus NodeState) (r : Result (Unit {0}) SclTimeout) → k1 ≡ k
    → w1 ≡ pulled t (mask_at k) w true true → came_stop r w2 ≡ slow_stop t (mask_at k1) w1 → came_stop r w2 ≡ stop_pulls t (mask_at k) w
pulled_first t k k1 w w1 w2 r same e f = f ∙ (ap (λ m. slow_stop t (mask_at m) w1) same ∙ ap (slow_stop t (mask_at k)) e)

-- ---- what is read anew keeps its state
pub all_joined : (f : ℕ → Bool) (n : ℕ) (ds : List (Site TargetState))
    → AllByRecursion (λ (s : Site TargetState). HoldsBytes s.state) ds
    → AllByRecursion (λ (s : Site TargetState). HoldsBytes s.state) (joined_from f n ds)
all_joined f n [] all = tt
all_joined f n (d ∷ ds) all = (all.0, all_joined f (n + 1) ds all.1)

pub free_on : (k : Rooted) (w : Bus NodeState) (c : Seen) (cs : List (Site ChipView)) (ds : List (Site TargetState))
    → On w cs ds → w ≡ free (both cs ds) c → AreTold k cs ds → (world_at k false w).hearing ≡ [] → IsFree k w
free_on k w c cs ds on is told nobody = record {
  lines =
      is
      ∙ (ap (λ xs. free (both xs ds) c) (sym on.chips)
      ∙ (ap (λ ys. free (both (chips_on w) ys) c) (sym on.devices)
      ∙ ap (free (both (chips_on w) (devices_on w))) (sym (ap (λ x. x.seen) is))));
  told = told_on k w cs ds on told;
  nobody = nobody;
}

-- ---- what is seen of a stop after a start that was too slow
late_shows : (held : Bool) (c : Seen) → StopShows true c (Stopped ∷ cond held (Level false ∷ c) (Started ∷ c))
late_shows true c = inl refl
late_shows false c = inr refl

-- ---- what a stop is
module _ (parts : (cs : List (Site ChipView)) (ds : List (Site TargetState)) → PartsOfBoth cs ds)
    (keeps : KeepsBytes state_table HoldsBytes)
    (sites : (b : BoardView) (r : ℕ) (busy : Bool) (cs : List (Site ChipView)) (ds : List (Site TargetState))
    → AreSites b r cs ds → StopOnSites b r busy cs ds) (k : Rooted) (w w1 : Bus NodeState) where
  frees : (late : Bool) (cs : List (Site ChipView)) (ds : List (Site TargetState)) (c : Seen) → On w cs ds → AreTold k cs ds
      → w1 ≡ free (both (stopped_chips k.board k.root cs ds) (stopped_devices k.board k.root cs ds)) c
      → StopShows late w.seen c → StopIs k late w w1
  frees late cs ds c on told is shows =
      let cs1 : List (Site ChipView) = stopped_chips k.board k.root cs ds in
      let ds1 : List (Site TargetState) = stopped_devices k.board k.root cs ds in
      let site : StopOnSites k.board k.root true cs ds = sites k.board k.root true cs ds told.sites in
      let on1 : On w1 cs1 ds1 = on_lines parts w1 cs1 ds1 Out (ap (λ x. x.targets) is) in
      let world : world_at k false w1 ≡ after (world_at k true w) call.Stop =
      world_on k false w1 cs1 ds1 on1 ∙ (site.world ∙ ap (λ v. after v call.Stop) (sym (world_on k true w cs ds on))) in
      record {
        free = free_on k w1 c cs1 ds1 on1 is
            (record {
              sites = site.kept;
              bytes = all_joined _ 0 (map (stop_site state_table) ds) (all_kept (stop_site state_table)
                  (λ s old. kept_where s.joined s (stops state_table s) old (λ was. keeps.after s.state Stop tt was)) ds told.bytes);
            })
            (ap (λ v. v.hearing) world);
        world = world;
        seen = subst (StopShows late w.seen) (sym (ap (λ x. x.seen) is)) shows;
      }

  within_told : (m : Mode) → StopOnWires m → StandsIn k m w → (r : Result (Unit {0}) SclTimeout)
      → came_stop r w1 ≡ stop_pulls the_table (mask_at k) w
      → StopTold k false r w w1
  unfolding the_table mask_at
  within_told m wires stands (Ok u) is =
      let e = is ∙ (ap (stop_pulls node_table (mask_of k.board k.root)) stands.lines
      ∙ wires k.board k.root w.sda (chips_on w) (devices_on w) w.seen) in
      frees false (chips_on w) (devices_on w) (Stopped ∷ Level false ∷ w.seen) (record { chips = refl; devices = refl }) stands.told
      (ap (λ (p : Bool × Bus NodeState). p.1) e) refl
  within_told m wires stands (Err l) is =
      let e = is ∙ (ap (stop_pulls node_table (mask_of k.board k.root)) stands.lines
      ∙ wires k.board k.root w.sda (chips_on w) (devices_on w) w.seen) in
      let p : false ≡ true = ap (λ (p : Bool × Bus NodeState). p.0) e in cc

  pub stop_told : StopOnWires (In false 8 0) → StopOnWires Out → MayEnd false k w → (r : Result (Unit {0}) SclTimeout)
      → came_stop r w1 ≡ stop_pulls the_table (mask_at k) w → StopTold k false r w w1
  stop_told written out (inl stands) r is = within_told (In false 8 0) written stands r is
  stop_told written out (inr stands) r is = within_told Out out stands r is

  slow_is : StopAfterSlowOnWires → (late : IsLate k w)
      → slow_stop the_table (mask_at k) w
      ≡ (
        true,
        free (both (stopped_chips k.board k.root (map (started chip_table late.byte) late.chips)
            (map (started state_table late.byte) late.devices))
            (stopped_devices k.board k.root (map (started chip_table late.byte) late.chips)
            (map (started state_table late.byte) late.devices)))
            (Stopped ∷ cond (some_one (stays node_table late.byte LOOKS) (both late.chips late.devices)) (Level false ∷ w.seen)
            (Started ∷ w.seen)),
      )
  unfolding the_table mask_at
  slow_is wires late =
      ap (slow_stop node_table (mask_of k.board k.root)) late.lines
      ∙ wires k.board k.root late.byte late.chips late.devices w.seen late.told.bytes

  pub slow_told : StopAfterSlowOnWires
      → ((b : BoardView) (r : ℕ) (busy : Bool) (byte : ℕ) (cs : List (Site ChipView)) (ds : List (Site TargetState))
      → byte / 2 < NO_ADDRESS → AreSites b r cs ds → StartOnSites b r busy byte cs ds)
      → IsLate k w → (r : Result (Unit {0}) SclTimeout) → came_stop r w1 ≡ slow_stop the_table (mask_at k) w → StopTold k true r w w1
  slow_told wires starts late (Err l) is = let p : false ≡ true = ap (λ (p : Bool × Bus NodeState). p.0) (is ∙ slow_is wires late) in cc
  slow_told wires starts late (Ok u) is =
      let fits : late.byte < 256 = late.fits in
      let site : StartOnSites k.board k.root true late.byte late.chips late.devices =
      starts k.board k.root true late.byte late.chips late.devices (omega (arith, fits)) late.told.sites in
      frees true (map (started chip_table late.byte) late.chips) (map (started state_table late.byte) late.devices) _
      (on_late parts k true late.byte late.chips late.devices site w w.seen late.lines)
      (record { sites = site.kept; bytes = started_bytes keeps late.byte late.devices late.told.bytes })
      (ap (λ (p : Bool × Bus NodeState). p.1) (is ∙ slow_is wires late))
      (late_shows (some_one (stays node_table late.byte LOOKS) (both late.chips late.devices)) w.seen)

-- ---- the line of a mux
level_devices : (m level : ℕ) (ds : List (Site TargetState))
    → levelled_bits m level (map (at Out) (map (site_with Device) ds)) ≡ map (at Out) (map (site_with Device) ds)
level_devices m level [] = refl
level_devices zero level (d ∷ ds) = refl
level_devices (suc m) level (d ∷ ds) = ap (λ bs. at Out (site_with Device d) ∷ bs) (level_devices m level ds)

level_both : (m level : ℕ) (cs : List (Site ChipView)) (ds : List (Site TargetState))
    → levelled_bits m level (map (at Out) (both cs ds)) ≡ map (at Out) (both (levelled m level cs) ds)
level_both m level [] ds = level_devices m level ds
level_both zero level (c ∷ cs) ds = refl
level_both (suc m) level (c ∷ cs) ds = ap (λ bs. at Out (site_with Chip c) ∷ bs) (level_both m level cs ds)

pub out_either : (a b : Bool) → cond {A = Mode} a Out Out ≡ cond {A = Mode} b Out Out
out_either true true = refl
out_either true false = refl
out_either false true = refl
out_either false false = refl

pub rejoin_out : (f : ℕ → Bool) (n : ℕ) (ss : List (Site NodeState))
    → rejoin_from f n (map (at Out) ss) ≡ map (at Out) (joined_from f n ss)
rejoin_out f n [] = refl
rejoin_out f n (s ∷ ss) =
    ap (λ (m : Mode). record { site = record s { joined = f n; heard = false }; mode = m; hold = 0 } ∷ rejoin_from f (n + 1)
    (map (at Out) ss))
    (out_either (hearing s) (f n && false))
    ∙ ap (λ bs. at Out (record s { joined = f n; heard = false }) ∷ bs) (rejoin_out f (n + 1) ss)

pub rejoined_out : (mask : Mask NodeState) (ss : List (Site NodeState))
    → rejoined mask (map (at Out) ss) ≡ map (at Out) (rejoin mask ss)
rejoined_out mask ss =
    ap (λ xs. rejoin_from (mask xs) 0 (map (at Out) ss)) (sites_map Out ss) ∙ rejoin_out (mask ss) 0 ss

module _ (parts : (cs : List (Site ChipView)) (ds : List (Site TargetState)) → PartsOfBoth cs ds)
    (sites : (b : BoardView) (r m level : ℕ) (cs : List (Site ChipView)) (ds : List (Site TargetState))
    → AreSites b r cs ds → (world_by b r false cs ds).hearing ≡ [] → LineOnSites b r m level cs ds)
    (k : Rooted) (m level : ℕ) (w w1 : Bus NodeState) (is_free : IsFree k w) (is : w1 ≡ lined (mask_at k) m level w) where
  abbrev chips : List (Site ChipView)
  chips = chips_anew k.board k.root (levelled m level (chips_on w)) (devices_on w)

  abbrev devices : List (Site TargetState)
  devices = devices_anew k.board k.root (levelled m level (chips_on w)) (devices_on w)

  lined_free : w1 ≡ free (both chips devices) w.seen
  unfolding lined mask_at
  lined_free =
      is
      ∙ (ap (lined (mask_of k.board k.root) m level) is_free.lines
      ∙ (ap (λ (bs : List (Bit NodeState)). bus_of false false (rejoined (mask_of k.board k.root) bs) w.seen)
      (level_both m level (chips_on w) (devices_on w))
      ∙ (ap (λ (bs : List (Bit NodeState)). bus_of false false bs w.seen)
      (rejoined_out (mask_of k.board k.root) (both (levelled m level (chips_on w)) (devices_on w)))
      ∙ ap (λ ss. free ss w.seen) (rejoin_both k.board k.root (levelled m level (chips_on w)) (devices_on w)))))

  pub line_told : LineIs k m level w w1
  line_told =
      let site : LineOnSites k.board k.root m level (chips_on w) (devices_on w) =
      sites k.board k.root m level (chips_on w) (devices_on w) is_free.told.sites is_free.nobody in
      let on : On w1 chips devices = on_lines parts w1 chips devices Out (ap (λ x. x.targets) lined_free) in
      let world : world_at k false w1 ≡ after (world_at k false w) (call.Line m level) = world_on k false w1 chips devices on
      ∙ site.world in
      record {
        free = free_on k w1 w.seen chips devices on lined_free
            (record { sites = site.kept; bytes = all_joined _ 0 (devices_on w) is_free.told.bytes })
            (ap (λ v. v.hearing) world ∙ is_free.nobody);
        world = world;
        seen = ap (λ x. x.seen) lined_free;
      }

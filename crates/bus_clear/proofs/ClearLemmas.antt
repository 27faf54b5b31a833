-- Bus clear after a cut read, from free lines of a root whose targets are quiet.
use Rattle.bus_clear.proofs.Cited.{◌≡◌, ℕ, suc, ◌+◌, ◌-◌, ◌*◌, ◌/◌, ◌%◌, ◌<◌, ◌≤◌, Bool, true, false, cond, List, [], ◌∷◌, map, refl, ap}
use Rattle.bus_clear.proofs.Cited.{sym, ◌∙◌, arith, subst, ◌&&◌, ◌==◌, nat_lt, if◌then◌else◌, AllByRecursion, nat_tests, IsByte, BoardView}
use Rattle.bus_clear.proofs.Cited.{Table, ChipView, chip_table, TargetState, state_table, HoldsBytes, KeepsBytes, IsFairTable, World, after}
use Rattle.bus_clear.proofs.Cited.{answer, is_ack, Site, bit, is_reading, tick, some_one, sent_by, and_all, get_site, stop_site, Seen}
use Rattle.bus_clear.proofs.Cited.{Bus, Mask, scl_level, sda_level, each, rises, started, answers_so, free, rejoin, NodeState, node_table}
use Rattle.bus_clear.proofs.Cited.{both, AreSites, mask_of, PartsOfBoth, StartOnSites, GetOnSites, StopOnSites, Rooted, IsFree, chips_on}
use Rattle.bus_clear.proofs.Cited.{devices_on, world_at, MOST_PULSES, IsQuietWorld, level_by, level_at, low_rises, pulses_of, is_heard}
use Rattle.bus_clear.proofs.Cited.{given_byte, cleared_world, cut_level, cut_pulls, clear_pulls, Clearing, clearing, ClearIs, Cleared, Free}
use Rattle.std.proofs.Common.{◌++◌}
use Rattle.i2c_base.specs.declared.port.PortCall.TheVariants as call
use Rattle.i2c_spec.specs.World.{after_all, gives, is_slow}
use Rattle.wire_spec.specs.Bus.{looked}
use Rattle.wire_spec.specs.Started.{answer_by}
use Rattle.wire_spec.specs.Sites.{Device, site_with, NO_ADDRESS}
use Rattle.wire_spec.proofs.CallLaws.{all_with, all_chips}
use Rattle.wire_spec.proofs.StartLemmas.{node_fair, slow_all}
use Rattle.i2c_bits.specs.Wiring.{the_table, mask_at}
use Rattle.i2c_bits.proofs.Starts.{unheard_all}
use Rattle.bus_clear.specs.Cuts.{events_by}
use Rattle.bus_clear.proofs.AddressLemmas.{behind_bit}
use Rattle.bus_clear.proofs.CutLemmas.{FreesAt, frees_heard, frees_unheard, sites_at, byte_sent, low_most}
use Rattle.bus_clear.proofs.WorldLemmas.{Found, Left, free_found, start_found, get_found, found_again, left_by, stop_again, stop_quiet}
use Rattle.std.proofs.lemmas.Bool.{and_right}

-- ---- the address byte of a read
half_of : (addr : ℕ) → (2 * addr + 1) / 2 ≡ addr
half_of addr = omega arith

odd_of : (addr : ℕ) → is_reading (2 * addr + 1) ≡ true
odd_of addr = let e : (2 * addr + 1) % 2 ≡ 1 = omega arith in ap (λ n. n == 1) e

-- ---- what was told of the events
abbrev begun_by : Bool → ℕ → World → World
begun_by b addr v = cond b (after v (call.Start addr true)) v

abbrev got_by : Bool → World → World
got_by b v = cond b (after v (call.Get false)) v

events_are : (v : World) (addr : ℕ) (b g : Bool)
    → after_all v (((if b then call.Start addr true ∷ [] else []) ++ (if g then call.Get false ∷ [] else [])) ++ call.Stop ∷ [])
    ≡ after (got_by g (begun_by b addr v)) call.Stop
events_are v addr true true = refl
events_are v addr true false = refl
events_are v addr false true = refl
events_are v addr false false = refl

-- ---- in the address byte no pulse is made, and nothing is told but the stop
high_early : (heard : Bool) (byte cut : ℕ) → cut < 8 → level_by heard byte cut ≡ true
high_early true byte cut lt =
    let a : (cut == 9) ≡ false = grind (arith, nat_tests) in
    let b : nat_lt 9 cut ≡ false = grind (arith, nat_tests) in
    ap (λ x. if x then false else if nat_lt 9 cut && nat_lt cut 18 then bit byte (17 - cut) else true) a
    ∙ ap (λ x. if x && nat_lt cut 18 then bit byte (17 - cut) else true) b
high_early false byte cut lt = refl

none_early : (heard : Bool) (byte cut : ℕ) → cut < 8 → low_rises (level_by heard byte) MOST_PULSES cut ≡ 0
none_early heard byte cut lt = ap (λ b. cond b 0 (suc (low_rises (level_by heard byte) 8 (suc cut)))) (high_early heard byte cut lt)

is_early : (n : ℕ) → nat_lt 7 n ≡ false → n < 8
is_early n is = grind (arith, nat_tests)

early_is : (n : ℕ) → n < 8 → nat_lt 7 n ≡ false
early_is n lt = grind (arith, nat_tests)

not_last : (heard : Bool) (n : ℕ) → n < 8 → (heard && (n == 18)) ≡ false
not_last heard n lt = let e : (n == 18) ≡ false = grind (arith, nat_tests) in and_right heard (n == 18) e

late_is : (n p : ℕ) → nat_lt 7 n ≡ true → nat_lt 7 (n + p) ≡ true
late_is n p is = grind (arith, nat_tests)

-- a look at a high clock changes nothing
pub look_stays : {X : Type 0} (t : Table X) (w : Bus X) → scl_level w ≡ true → looked t w ≡ w
unfolding looked
look_stays t w up = ap (λ u. cond u w (cond (scl_level (each tick w)) (rises t (each tick w)) (each tick w))) up

module _ (parts : (cs : List (Site ChipView)) (ds : List (Site TargetState)) → PartsOfBoth cs ds)
    (keeps : KeepsBytes state_table HoldsBytes)
    (fair_chips : IsFairTable chip_table) (fair_devices : IsFairTable state_table)
    (starts_on : (b : BoardView) (r : ℕ) (busy : Bool) (byte : ℕ) (cs : List (Site ChipView)) (ds : List (Site TargetState))
    → byte / 2 < NO_ADDRESS → AreSites b r cs ds → StartOnSites b r busy byte cs ds)
    (gets_on : (b : BoardView) (r : ℕ) (busy ack : Bool) (cs : List (Site ChipView)) (ds : List (Site TargetState))
    → GetOnSites b r busy ack cs ds)
    (stops_on : (b : BoardView) (r : ℕ) (busy : Bool) (cs : List (Site ChipView)) (ds : List (Site TargetState))
    → AreSites b r cs ds → StopOnSites b r busy cs ds)
    (k : Rooted) (w : Bus NodeState) (is_free : IsFree k w) (quiet : IsQuietWorld (world_at k false w)) (addr : ℕ) (small : addr < 128)
    (cut : ℕ) (some : 1 ≤ cut) (few : cut ≤ 18) where
  abbrev byte : ℕ
  byte = 2 * addr + 1

  abbrev mask : Mask NodeState
  mask = mask_of k.board k.root

  abbrev ss : List (Site NodeState)
  ss = both (chips_on w) (devices_on w)

  abbrev world : World
  world = world_at k false w

  fits : byte < 256
  fits = omega (arith, small)

  fair : IsFairTable node_table
  fair = node_fair fair_chips fair_devices

  site : StartOnSites k.board k.root false byte (chips_on w) (devices_on w)
  site = starts_on k.board k.root false byte (chips_on w) (devices_on w) (omega (arith, small)) is_free.told.sites

  holds : AllByRecursion (λ (s : Site NodeState). IsByte (node_table.hold s.state)) ss
  holds = all_chips (chips_on w) (map (site_with Device) (devices_on w)) (all_with Device HoldsBytes keeps.holds
      (devices_on w) is_free.told.bytes)

  abbrev slow : Bool
  slow = some_one (answers_so node_table is_slow (byte / 2) (is_reading byte)) ss

  abbrev acked : Bool
  acked = some_one (answers_so node_table is_ack (byte / 2) (is_reading byte)) ss

  abbrev Freed : Bool → Type 0
  Freed heard = FreesAt node_table fair mask byte fits (odd_of addr) ss w.seen heard cut

  frees_by : (s a : Bool) → slow ≡ s → acked ≡ a → Freed (is_ack (answer_by s a))
  frees_by true a is took =
      frees_unheard node_table fair mask byte fits (odd_of addr) ss w.seen holds true (slow_all node_table fair byte ss ∙ is)
      (λ p. cc) (λ p. cc) cut some few
  frees_by false true is took =
      frees_heard node_table fair mask byte fits (odd_of addr) ss w.seen (slow_all node_table fair byte ss ∙ is) took cut some few
  frees_by false false is took =
      frees_unheard node_table fair mask byte fits (odd_of addr) ss w.seen holds false (slow_all node_table fair byte ss ∙ is)
      (λ p. took) (λ p. unheard_all node_table byte ss is took) cut some few

  heard_is : is_ack (answer_by slow acked) ≡ is_heard world addr
  heard_is =
      ap is_ack (sym site.answered)
      ∙ (ap (λ n. is_ack (answer world n (is_reading byte))) (half_of addr) ∙ ap (λ r. is_ack (answer world addr r)) (odd_of addr))

  abbrev heard : Bool
  heard = is_heard world addr

  freed : Freed heard
  freed = subst Freed heard_is (frees_by slow acked refl refl)

  start_is : (v : World) → after v (call.Start (byte / 2) (is_reading byte)) ≡ after v (call.Start addr true)
  start_is v = ap (λ n. after v (call.Start n (is_reading byte))) (half_of addr) ∙ ap (λ r. after v (call.Start addr r)) (odd_of addr)

  -- the byte that the targets send
  abbrev sent : ℕ
  sent = byte_sent node_table fair mask byte fits (odd_of addr) ss w.seen

  sent_is : sent ≡ given_byte world addr
  sent_is =
      ap (λ xs. and_all (map (sent_by node_table) xs)) site.parts
      ∙ ((gets_on k.board k.root true false (map (started chip_table byte) (chips_on w)) (map (started state_table byte)
      (devices_on w))).answered
      ∙ ap gives (site.world ∙ start_is world))

  abbrev pulses : ℕ
  pulses = low_rises (level_by heard sent) MOST_PULSES cut

  pulses_are : pulses ≡ pulses_of world addr cut
  pulses_are = ap (λ b. low_rises (level_by heard b) MOST_PULSES cut) sent_is

  -- ---- the sites that the stop of bus clear finds
  abbrev found : Found k ss world
  found = free_found k w is_free quiet

  begun : Found k (map (started node_table byte) ss) (after world (call.Start addr true))
  begun = subst (Found k (map (started node_table byte) ss)) (start_is world) (start_found keeps k byte ss world found site)

  got : (g : Bool) → Found k (cond g (map (get_site node_table false) (map (started node_table byte) ss))
      (map (started node_table byte) ss))
      (got_by g (after world (call.Start addr true)))
  got true = get_found keeps k false _ _ begun (gets_on k.board k.root begun.busy false begun.chips begun.devices)
  got false = begun

  abbrev sites : List (Site NodeState)
  sites = sites_at node_table fair mask byte fits (odd_of addr) ss w.seen heard cut

  abbrev last : Bool
  last = heard && (cut + pulses == 18)

  -- after the stop
  abbrev Ends : List (Site NodeState) → World → Type 0
  Ends gs v = (u : Bus NodeState) (c : Seen) → u ≡ free (rejoin mask (map (stop_site node_table) gs)) c → Left k u v

  ends : (gs : List (Site NodeState)) (v : World) → Found k gs v → Ends gs (after v call.Stop)
  ends gs v f u c is = left_by parts keeps fair_chips fair_devices stops_on k gs v f u c is

  stops_twice : after (after world call.Stop) call.Stop ≡ after world call.Stop
  stops_twice = stop_again world (stop_quiet parts keeps fair_chips fair_devices stops_on k ss world found)

  early : (h : Bool) → Ends (behind_bit node_table mask ss h) (after world call.Stop)
  early true = ends ss world found
  early false =
      subst (Ends (behind_bit node_table mask ss false)) stops_twice
      (ends _ _ (found_again parts keeps fair_chips fair_devices stops_on k ss world found))

  world_of : (b : Bool) → nat_lt 7 cut ≡ b
      → Ends (cond b (cond last (map (get_site node_table false) (map (started node_table byte) ss)) (map (started node_table byte) ss))
      (behind_bit node_table mask ss (cut_level byte cut)))
      (after_all world (events_by heard addr (cut + pulses) ++ call.Stop ∷ []))
  world_of true is =
      let e : nat_lt 7 (cut + pulses) ≡ true = late_is cut pulses is in
      subst (Ends (cond last (map (get_site node_table false) (map (started node_table byte) ss)) (map (started node_table byte) ss)))
      (ap (λ b. after (got_by last (begun_by b addr world)) call.Stop) (sym e) ∙ sym (events_are world addr (nat_lt 7 (cut + pulses)) last))
      (ends _ _ (got last))
  world_of false is =
      let lt : cut < 8 = is_early cut is in
      let none : pulses ≡ 0 = none_early heard sent cut lt in
      let at : cut + pulses < 8 = omega (arith, lt, none) in
      let e : nat_lt 7 (cut + pulses) ≡ false = early_is (cut + pulses) at in
      let g : last ≡ false = not_last heard (cut + pulses) at in
      subst (Ends (behind_bit node_table mask ss (cut_level byte cut)))
      (ap (λ b. after (got_by b world) call.Stop) (sym g)
      ∙ (ap (λ b. after (got_by last (begun_by b addr world)) call.Stop) (sym e)
      ∙ sym (events_are world addr (nat_lt 7 (cut + pulses)) last)))
      (early (cut_level byte cut))

  left : Ends sites (cleared_world world addr cut)
  left =
      subst (Ends sites) (ap (λ p. after_all world (events_by heard addr (cut + p) ++ call.Stop ∷ [])) pulses_are)
      (world_of (nat_lt 7 cut) refl)

  -- ---- the pulls and looks
  module _ (k2 : Rooted) (so : k2 ≡ k) (w1 w2 w3 : Bus NodeState) (high : Bool) (a : Cleared)
      (cuts : w1 ≡ cut_pulls the_table (mask_at k) byte cut w) (seen : high ≡ sda_level the_table w1) (looks : w2 ≡ looked the_table w1)
      (clears : clearing a w3 ≡ clear_pulls the_table (mask_at k2) w2) where
    at_cut : w1 ≡ cut_pulls node_table mask byte cut (free ss w.seen)
    unfolding the_table mask_at
    at_cut = cuts ∙ ap (cut_pulls node_table mask byte cut) is_free.lines

    looked_is : w2 ≡ w1
    unfolding the_table
    looked_is = looks ∙ look_stays node_table w1 (ap scl_level at_cut ∙ freed.up)

    all_is : clearing a w3 ≡ clearing (Free pulses) (free (rejoin mask (map (stop_site node_table) sites)) freed.seen)
    unfolding the_table mask_at
    all_is =
        clears
        ∙ (ap (λ m. clear_pulls node_table (mask_of m.board m.root) w2) so
        ∙ (ap (clear_pulls node_table mask) (looked_is ∙ at_cut) ∙ freed.is))

    level_told : high ≡ level_at world addr cut
    unfolding the_table
    level_told =
        seen ∙ (ap (sda_level node_table) at_cut ∙ (freed.level ∙ ap (λ b. level_by heard b cut) sent_is))

    clear_told : ClearIs k addr cut a w w3
    clear_told =
        let l : Left k w3 (cleared_world world addr cut) = left w3 freed.seen (ap (λ (x : Clearing NodeState). x.bus) all_is) in
        record {
          answer = ap (λ (x : Clearing NodeState). x.answer) all_is ∙ ap Free pulses_are;
          few = low_most (level_at world addr) MOST_PULSES cut;
          free = l.free;
          world = l.world;
          quiet = subst IsQuietWorld (sym l.world) l.quiet;
        }

    pub cut_told : (high ≡ level_at world addr cut) × ClearIs k addr cut a w w3
    cut_told = (level_told, clear_told)

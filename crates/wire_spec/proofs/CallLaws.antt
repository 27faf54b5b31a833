-- A call on the wires of a root is the call in its world: from the laws of any table, and those of the sites.
use Rattle.wire_spec.proofs.Cited.{◌≡◌, ℕ, ◌/◌, ◌<◌, Bool, true, false, cond, List, [], ◌∷◌, ◌++◌, map, refl, ap, sym, ◌∙◌, arith, not}
use Rattle.wire_spec.proofs.Cited.{AllByRecursion, BoardView, IsByte, ChipView, chip_table, TargetState, state_table, IsFairTable, is_ack}
use Rattle.wire_spec.proofs.Cited.{is_slow, takes, gives, Mode, Out, In, Give, Site, LOOKS, is_reading, shifted, some_one, put_site}
use Rattle.wire_spec.proofs.Cited.{get_site, stop_site, Seen, Level, Started, Stopped, with_levels, bits, came_up, started, stays, answers_so, answer_by}
use Rattle.wire_spec.proofs.Cited.{entered_by, byte_seen, within, free, rejoin, NodeState, Chip, Device, node_table, site_with, both}
use Rattle.wire_spec.proofs.Cited.{mask_of, AreSites, world_by, StopFreesTheLines}
use Rattle.i2c_spec.specs.Targets.{HoldsBytes, KeepsBytes}
use Rattle.wire_spec.specs.CallLaws.{PutOnWires, GetOnWires, StartOnWires, SlowOnWires, StopOnWires, StopAfterSlowOnWires, answer_to}
use Rattle.wire_spec.proofs.ByteLaws.{puts_are_events, gets_are_events}
use Rattle.wire_spec.proofs.StartLemmas.{node_fair, start_answer}
use Rattle.wire_spec.proofs.StartLaws.{address_is_event, slow_stays_low, slow_frees}
use Rattle.wire_spec.proofs.SiteLaws.{put_on_sites, get_on_sites, start_parts, stop_parts}

pub put_on_wires : PutOnWires
put_on_wires b r byte lt busy low cs ds c =
    let is = put_on_sites b r busy byte cs ds in
    puts_are_events node_table (mask_of b r) byte lt low (both cs ds) c
    ∙ (ap (λ a. came_up (shifted 0 (not a)) (within (In false 8 0) false (map (put_site node_table byte) (both cs ds))
    (byte_seen byte a c)))
    is.answered
    ∙ ap (λ ss. came_up (shifted 0 (not (takes (world_by b r busy cs ds) byte))) (within (In false 8 0) false ss
    (byte_seen byte (takes (world_by b r busy cs ds) byte) c)))
    is.parts)

pub get_on_wires : IsFairTable chip_table → IsFairTable state_table → GetOnWires
get_on_wires chips devices b r busy ack low cs ds c =
    let is = get_on_sites chips devices b r busy ack cs ds in
    gets_are_events node_table (mask_of b r) ack low (both cs ds) c
    ∙ (ap (λ n. came_up n (within (cond ack (Give 8) Out) ack (map (get_site node_table ack) (both cs ds))
    (byte_seen n ack c))) is.answered
    ∙ ap (λ ss. came_up (gives (world_by b r busy cs ds)) (within (cond ack (Give 8) Out) ack ss
    (byte_seen (gives (world_by b r busy cs ds)) ack c))) is.parts)

-- ---- a start, by what the world answers
slow_of : (slow acked : Bool) → is_slow (answer_by slow acked) ≡ slow
slow_of true acked = refl
slow_of false true = refl
slow_of false false = refl

ack_of : (slow acked : Bool) → slow ≡ false → is_ack (answer_by slow acked) ≡ acked
ack_of true acked is = cc
ack_of false true is = refl
ack_of false false is = refl

module _ (chips : IsFairTable chip_table) (devices : IsFairTable state_table) (b : BoardView) (r byte : ℕ) (lt : byte < 256) (busy : Bool)
    (cs : List (Site ChipView)) (ds : List (Site TargetState)) (are : AreSites b r cs ds) where
  abbrev slow : Bool
  slow = some_one (answers_so node_table is_slow (byte / 2) (is_reading byte)) (both cs ds)

  abbrev acked : Bool
  acked = some_one (answers_so node_table is_ack (byte / 2) (is_reading byte)) (both cs ds)

  answer_is : answer_to b r busy byte cs ds ≡ answer_by slow acked
  answer_is = start_answer b r busy cs ds are chips devices byte (omega (arith, lt))

  pub slow_is : slow ≡ is_slow (answer_to b r busy byte cs ds)
  slow_is = sym (ap is_slow answer_is ∙ slow_of slow acked)

  pub acked_is : slow ≡ false → acked ≡ is_ack (answer_to b r busy byte cs ds)
  acked_is none = sym (ap is_ack answer_is ∙ ack_of slow acked none)

pub start_on_wires : IsFairTable chip_table → IsFairTable state_table → StartOnWires
start_on_wires chips devices b r byte lt busy low cs ds c are quick =
    let none = slow_is chips devices b r byte lt busy cs ds are ∙ quick in
    address_is_event node_table (node_fair chips devices) (mask_of b r) byte lt low (both cs ds) c none
    ∙ (ap (λ a. came_up (shifted 0 (not a)) (within (entered_by byte) false (map (started node_table byte) (both cs ds))
    (byte_seen byte a c)))
    (acked_is chips devices b r byte lt busy cs ds are none)
    ∙ ap (λ ss. came_up (shifted 0 (not (is_ack (answer_to b r busy byte cs ds)))) (within (entered_by byte) false ss
    (byte_seen byte (is_ack (answer_to b r busy byte cs ds)) c)))
    (start_parts byte cs ds))

pub slow_on_wires : IsFairTable chip_table → IsFairTable state_table → SlowOnWires
slow_on_wires chips devices b r byte lt busy low cs ds c are slow =
    slow_stays_low node_table (node_fair chips devices) (mask_of b r) byte lt low (both cs ds) c
    (slow_is chips devices b r byte lt busy cs ds are ∙ slow)

-- ---- a stop
pub stop_on_wires : (m : Mode) → StopFreesTheLines node_table m → StopOnWires m
stop_on_wires m frees b r low cs ds c =
    frees (mask_of b r) low (both cs ds) c ∙ ap (λ ss. (true, free ss (Stopped ∷ Level false ∷ c))) (stop_parts b r cs ds)

pub all_with : {X : Type 0} (g : X → NodeState) (P : X → Type 0) → ((x : X) → P x → IsByte (node_table.hold (g x))) → (ss : List (Site X))
    → AllByRecursion (λ (s : Site X). P s.state) ss → AllByRecursion (λ (s : Site NodeState). IsByte (node_table.hold s.state))
    (map (site_with g) ss)
all_with g P is [] all = tt
all_with g P is (s ∷ ss) all = (is s.state all.0, all_with g P is ss all.1)

pub all_chips : (cs : List (Site ChipView)) (ns : List (Site NodeState))
    → AllByRecursion (λ (s : Site NodeState). IsByte (node_table.hold s.state)) ns
    → AllByRecursion (λ (s : Site NodeState). IsByte (node_table.hold s.state)) (map (site_with Chip) cs ++ ns)
all_chips [] ns all = all
all_chips (c ∷ cs) ns all = (omega arith, all_chips cs ns all)

pub late_stop_on_wires : KeepsBytes state_table HoldsBytes → StopAfterSlowOnWires
late_stop_on_wires keeps b r byte cs ds c all =
    let seen : Seen = Stopped ∷ cond (some_one (stays node_table byte LOOKS) (both cs ds)) (Level false ∷ c) (Started ∷ c) in
    slow_frees node_table (mask_of b r) byte (both cs ds) c (all_chips cs (map (site_with Device) ds)
    (all_with Device HoldsBytes keeps.holds ds all))
    ∙ (ap (λ ss. (true, free (rejoin (mask_of b r) (map (stop_site node_table) ss)) seen)) (start_parts byte cs ds)
    ∙ ap (λ ss. (true, free ss seen)) (stop_parts b r (map (started chip_table byte) cs) (map (started state_table byte) ds)))

-- The laws of the sites of a root: what a call is to them is what it is to its world, and they stay the world's, from the
-- opening on.
use Rattle.std.specs.Prelude.{◌≡◌, ℕ, ◌/◌, Bool, true, false, List, map, zero, suc, [], ◌∷◌}
use Rattle.i2c_base.specs.declared.port.PortCall.TheVariants as call
use Rattle.i2c_base.specs.Board.{BoardView}
use Rattle.i2c_spec.specs.Chips.{ChipView, chip_table, at_level}
use Rattle.i2c_spec.specs.Targets.{TargetState, state_table}
use Rattle.i2c_spec.specs.World.{after, answer, takes, gives, opening_world, is_ack, is_slow}
use Rattle.wire_spec.specs.Wires.{Site, is_reading}
use Rattle.wire_spec.specs.Roots.{some_one, put_site, acks, get_site, sent_by, and_all, stop_site}
use Rattle.wire_spec.specs.Started.{started, answer_by, answers_so}
use Rattle.wire_spec.specs.Calls.{rejoin}
use Rattle.wire_spec.specs.Sites.{node_table, both, chips_in, devices_in, world_by, AreSites, chips_anew, devices_anew, opened_chips, opened_devices, mask_of}

-- the chips and the devices of both together are those
pub record PartsOfBoth (cs : List (Site ChipView)) (ds : List (Site TargetState)) : Type 0 where
  pub chips : chips_in (both cs ds) ≡ cs
  pub devices : devices_in (both cs ds) ≡ ds

-- the sites of a board that is opened are its world's
pub record OpenedSites (b : BoardView) (r : ℕ) : Type 0 where
  pub are : AreSites b r (opened_chips b r) (opened_devices b r)
  pub world : world_by b r false (opened_chips b r) (opened_devices b r) ≡ opening_world b r

-- what a byte that is put is to each site is what it is to the world
pub record PutOnSites (b : BoardView) (r : ℕ) (busy : Bool) (byte : ℕ) (cs : List (Site ChipView)) (ds : List (Site TargetState)) : Type 0 where
  pub parts : map (put_site node_table byte) (both cs ds) ≡ both (map (put_site chip_table byte) cs) (map (put_site state_table byte) ds)
  pub kept : AreSites b r cs ds → AreSites b r (map (put_site chip_table byte) cs) (map (put_site state_table byte) ds)
  pub world : world_by b r busy (map (put_site chip_table byte) cs) (map (put_site state_table byte) ds)
      ≡ after (world_by b r busy cs ds) (call.Put byte)
  pub answered : some_one (acks node_table byte) (both cs ds) ≡ takes (world_by b r busy cs ds) byte

-- what a byte that is read is to each site is what it is to the world, which gives the AND of what is sent
pub record GetOnSites (b : BoardView) (r : ℕ) (busy ack : Bool) (cs : List (Site ChipView)) (ds : List (Site TargetState)) : Type 0 where
  pub parts : map (get_site node_table ack) (both cs ds) ≡ both (map (get_site chip_table ack) cs) (map (get_site state_table ack) ds)
  pub kept : AreSites b r cs ds → AreSites b r (map (get_site chip_table ack) cs) (map (get_site state_table ack) ds)
  pub world : world_by b r busy (map (get_site chip_table ack) cs) (map (get_site state_table ack) ds)
      ≡ after (world_by b r busy cs ds) (call.Get ack)
  pub answered : and_all (map (sent_by node_table) (both cs ds)) ≡ gives (world_by b r busy cs ds)

-- what a start is to each site is what it is to the world: Slow where one that is named answers so, else Ack where one does, else
-- Nack
pub record StartOnSites (b : BoardView) (r : ℕ) (busy : Bool) (byte : ℕ) (cs : List (Site ChipView)) (ds : List (Site TargetState)) : Type 0 where
  pub parts : map (started node_table byte) (both cs ds) ≡ both (map (started chip_table byte) cs) (map (started state_table byte) ds)
  pub kept : AreSites b r (map (started chip_table byte) cs) (map (started state_table byte) ds)
  pub world : world_by b r true (map (started chip_table byte) cs) (map (started state_table byte) ds)
      ≡ after (world_by b r busy cs ds) (call.Start (byte / 2) (is_reading byte))
  pub answered : answer (world_by b r busy cs ds) (byte / 2) (is_reading byte)
      ≡ answer_by (some_one (answers_so node_table is_slow (byte / 2) (is_reading byte)) (both cs ds))
      (some_one (answers_so node_table is_ack (byte / 2) (is_reading byte)) (both cs ds))

-- the sites after a stop: who is joined is read anew
abbrev pub stopped_chips : BoardView → ℕ → List (Site ChipView) → List (Site TargetState) → List (Site ChipView)
stopped_chips b r cs ds = chips_anew b r (map (stop_site chip_table) cs) (map (stop_site state_table) ds)

abbrev pub stopped_devices : BoardView → ℕ → List (Site ChipView) → List (Site TargetState) → List (Site TargetState)
stopped_devices b r cs ds = devices_anew b r (map (stop_site chip_table) cs) (map (stop_site state_table) ds)

-- what a stop is to each site is what it is to the world
pub record StopOnSites (b : BoardView) (r : ℕ) (busy : Bool) (cs : List (Site ChipView)) (ds : List (Site TargetState)) : Type 0 where
  pub parts : rejoin (mask_of b r) (map (stop_site node_table) (both cs ds)) ≡ both (stopped_chips b r cs ds) (stopped_devices b r cs ds)
  pub kept : AreSites b r (stopped_chips b r cs ds) (stopped_devices b r cs ds)
  pub world : world_by b r false (stopped_chips b r cs ds) (stopped_devices b r cs ds) ≡ after (world_by b r busy cs ds) call.Stop

-- the line of a mux is set, while nobody is in a message: its chip has another level
abbrev pub levelled : ℕ → ℕ → List (Site ChipView) → List (Site ChipView)
levelled m level [] = []
levelled zero level (s ∷ ss) = record s { state = at_level s.state level } ∷ ss
levelled (suc m) level (s ∷ ss) = s ∷ levelled m level ss

-- what that is to the sites, of which who is joined is read anew as well, is what it is to the world
pub record LineOnSites (b : BoardView) (r m level : ℕ) (cs : List (Site ChipView)) (ds : List (Site TargetState)) : Type 0 where
  pub kept : AreSites b r (chips_anew b r (levelled m level cs) ds) (devices_anew b r (levelled m level cs) ds)
  pub world : world_by b r false (chips_anew b r (levelled m level cs) ds) (devices_anew b r (levelled m level cs) ds)
      ≡ after (world_by b r false cs ds) (call.Line m level)

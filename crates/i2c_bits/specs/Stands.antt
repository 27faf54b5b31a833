-- How told lines stand between two calls, the world of bytes that they are, and what a call on them is in it.
use Rattle.std.specs.Prelude.{ℕ, ◌≡◌, ◌/◌, ◌<◌, ◌⊎◌, Bool, true, false, cond, List, [], map, Result, Ok, Err}
use Rattle.std.specs.List.{AllByRecursion}
use Rattle.i2c_base.specs.Board.{BoardView}
use Rattle.i2c_base.specs.declared.event.Answer.{Answer}
use Rattle.i2c_base.specs.declared.event.Answer.TheVariants.{Ack, Nack, Slow, Byte, Nothing}
use Rattle.i2c_base.specs.declared.port.PortCall.TheVariants as call
use Rattle.i2c_spec.specs.Chips.{ChipView}
use Rattle.i2c_spec.specs.Targets.{TargetState, state_table, HoldsBytes, KeepsBytes}
use Rattle.i2c_spec.specs.World.{World, after, answer, takes, gives}
use Rattle.wire_spec.specs.declared.mode.Mode.{Mode}
use Rattle.wire_spec.specs.declared.mode.Mode.TheVariants.{Out, In, Give}
use Rattle.wire_spec.specs.Wires.{Site, Bit, is_reading}
use Rattle.wire_spec.specs.Bus.{Bus}
use Rattle.wire_spec.specs.Started.{late_bus, entered_by}
use Rattle.wire_spec.specs.Calls.{byte_seen, within, within_address, free}
use Rattle.wire_spec.specs.Sites.{NodeState, node_table, both, chips_in, devices_in, world_by, AreSites}
use Rattle.wire_spec.specs.WorldLaws.{PartsOfBoth, PutOnSites, GetOnSites}
use Rattle.wire_spec.specs.CallLaws.{PutOnWires, GetOnWires}
use Rattle.i2c_bits.specs.Wiring.{Rooted}
use Rattle.i2c_bits.specs.Showing.{begun_seen, StartShows, StopShows}
use Rattle.i2c_bits.specs.declared.lines.SclTimeout.{SclTimeout}

-- what the world sees of the targets on the lines: all, the chips, and the devices
unfoldable pub sites_of : Bus NodeState → List (Site NodeState)
sites_of w = map {A = Bit NodeState} (λ (b : Bit NodeState). b.site) w.targets

abbrev pub chips_on : Bus NodeState → List (Site ChipView)
chips_on w = chips_in (sites_of w)

abbrev pub devices_on : Bus NodeState → List (Site TargetState)
devices_on w = devices_in (sites_of w)

-- the world that they are, in a message or not
abbrev pub world_at : Rooted → Bool → Bus NodeState → World
world_at k busy w = world_by k.board k.root busy (chips_on w) (devices_on w)

-- these are the sites of the world of a root, and what the devices hold are bytes
pub record AreTold (k : Rooted) (cs : List (Site ChipView)) (ds : List (Site TargetState)) : Type 0 where
  pub sites : AreSites k.board k.root cs ds
  pub bytes : AllByRecursion (λ (s : Site TargetState). HoldsBytes s.state) ds

-- the lines stand within a message, between two clocks, and who has heard stands in this mode
pub record StandsIn (k : Rooted) (m : Mode) (w : Bus NodeState) : Type 0 where
  pub lines : w ≡ within m w.sda (both (chips_on w) (devices_on w)) w.seen
  pub told : AreTold k (chips_on w) (devices_on w)

-- the lines are free, and nobody is in a message
pub record IsFree (k : Rooted) (w : Bus NodeState) : Type 0 where
  pub lines : w ≡ free (both (chips_on w) (devices_on w)) w.seen
  pub told : AreTold k (chips_on w) (devices_on w)
  pub nobody : (world_at k false w).hearing ≡ []

-- a start with this address byte, to these chips and devices, was too slow, and the lines are let go; who holds SCL has the rest
-- of its hold
pub record IsLate (k : Rooted) (w : Bus NodeState) : Type 0 where
  pub byte : ℕ
  pub fits : byte < 256
  pub chips : List (Site ChipView)
  pub devices : List (Site TargetState)
  pub lines : w ≡ late_bus node_table byte (both chips devices) w.seen
  pub told : AreTold k chips devices

-- a byte that is put on the wires of a root, or read from them, is one in its world: on the wires, and on the sites, where mux chips
-- stand before devices, and what devices hold stays bytes
pub record BytesAreInWorld : Type 0 where
  pub put_wires : PutOnWires
  pub get_wires : GetOnWires
  pub put_sites : (b : BoardView) (r : ℕ) (busy : Bool) (byte : ℕ) (cs : List (Site ChipView)) (ds : List (Site TargetState))
      → PutOnSites b r busy byte cs ds
  pub get_sites : (b : BoardView) (r : ℕ) (busy ack : Bool) (cs : List (Site ChipView)) (ds : List (Site TargetState))
      → GetOnSites b r busy ack cs ds
  pub parts : (cs : List (Site ChipView)) (ds : List (Site TargetState)) → PartsOfBoth cs ds
  pub kept : KeepsBytes state_table HoldsBytes

-- a put on the lines is one in the world, and shows the byte and the answer to it (UM10204 sections 3.1.5 and 3.1.6)
pub record PutIs (k : Rooted) (acked : Bool) (byte : ℕ) (old new : Bus NodeState) : Type 0 where
  pub answer : acked ≡ takes (world_at k true old) byte
  pub stands : StandsIn k (In false 8 0) new
  pub world : world_at k true new ≡ after (world_at k true old) (call.Put byte)
  pub seen : new.seen ≡ byte_seen byte acked old.seen

-- SCL comes up in time in a put
abbrev pub PutTold : Rooted → Result Bool SclTimeout → ℕ → Bus NodeState → Bus NodeState → Type 0
PutTold k (Ok acked) byte old new = PutIs k acked byte old new
PutTold k (Err e) byte old new = ⊥

-- a get on the lines is one in the world, and shows the byte that it gives and the controller's answer
pub record GetIs (k : Rooted) (byte : ℕ) (ack : Bool) (old new : Bus NodeState) : Type 0 where
  pub answer : byte ≡ gives (world_at k true old)
  pub stands : StandsIn k (cond ack (Give 8) Out) new
  pub world : world_at k true new ≡ after (world_at k true old) (call.Get ack)
  pub seen : new.seen ≡ byte_seen byte ack old.seen

-- SCL comes up in time in a get
abbrev pub GetTold : Rooted → Result ℕ SclTimeout → Bool → Bus NodeState → Bus NodeState → Type 0
GetTold k (Ok byte) ack old new = GetIs k byte ack old new
GetTold k (Err e) ack old new = ⊥

-- where a start may be made: from free lines, or within a message whose targets take bytes or are out
abbrev pub MayBegin : Bool → Rooted → Bus NodeState → Type 0
MayBegin false k w = IsFree k w
MayBegin true k w = StandsIn k (In false 8 0) w ⊎ StandsIn k Out w

-- all that is joined takes in an address, after a start or a repeated one
abbrev pub CalledTold : (busy : Bool) → Result (Unit {0}) SclTimeout → Bus NodeState → Bus NodeState → Type 0
CalledTold busy (Ok u) old new =
    new ≡ within_address 8 0 true (both (chips_on old) (devices_on old)) (begun_seen busy old.seen)
CalledTold busy (Err e) old new = ⊥

-- all that is joined takes in an address of which nothing has come yet
pub record IsCalled (w : Bus NodeState) : Type 0 where
  pub sites : List (Site NodeState)
  pub lines : w ≡ within_address 8 0 true sites w.seen

-- how the lines stand behind the answer to an address byte
abbrev pub StandsBy : Answer → ℕ → Rooted → Bus NodeState → Type 0
StandsBy Ack byte k w = StandsIn k (entered_by byte) w
StandsBy Nack byte k w = StandsIn k Out w
StandsBy Slow byte k w = IsLate k w
StandsBy (Byte b) byte k w = ⊥
StandsBy Nothing byte k w = ⊥

-- a start on the lines, with this address byte, is one in the world
pub record StartIs (k : Rooted) (busy : Bool) (a : Answer) (byte : ℕ) (old new : Bus NodeState) : Type 0 where
  pub answer : a ≡ answer (world_at k busy old) (byte / 2) (is_reading byte)
  pub stands : StandsBy a byte k new
  pub world : world_at k true new ≡ after (world_at k busy old) (call.Start (byte / 2) (is_reading byte))
  pub seen : StartShows busy byte a old.seen new.seen

-- SCL comes up in time in the eight bits of an address
abbrev pub StartTold : Rooted → Bool → Result Answer SclTimeout → ℕ → Bus NodeState → Bus NodeState → Type 0
StartTold k busy (Ok a) byte old new = StartIs k busy a byte old new
StartTold k busy (Err e) byte old new = ⊥

-- where a stop may be made: within a message whose targets take bytes or are out, or after a start that was too slow
abbrev pub MayEnd : Bool → Rooted → Bus NodeState → Type 0
MayEnd false k w = StandsIn k (In false 8 0) w ⊎ StandsIn k Out w
MayEnd true k w = IsLate k w

-- a stop on the lines, after a start that was too slow or another call, is one in the world
pub record StopIs (k : Rooted) (late : Bool) (old new : Bus NodeState) : Type 0 where
  pub free : IsFree k new
  pub world : world_at k false new ≡ after (world_at k true old) call.Stop
  pub seen : StopShows late old.seen new.seen

-- SCL comes up in time in a stop
abbrev pub StopTold : Rooted → (late : Bool) → Result (Unit {0}) SclTimeout → Bus NodeState → Bus NodeState → Type 0
StopTold k late (Ok u) old new = StopIs k late old new
StopTold k late (Err e) old new = ⊥

-- the line of a mux that is set is so in the world, and neither wire changes
pub record LineIs (k : Rooted) (m level : ℕ) (old new : Bus NodeState) : Type 0 where
  pub free : IsFree k new
  pub world : world_at k false new ≡ after (world_at k false old) (call.Line m level)
  pub seen : new.seen ≡ old.seen

-- The devices that a journal leaves.
use Rattle.std.specs.Prelude.{◌≡◌, ℕ, suc, ◌==◌, false, ◌&&◌, List, [], ◌∷◌, length, map, take, Some, None, slice_get, if◌then◌else◌}
use Rattle.std.specs.List.{range_with_len}
use Rattle.i2c_base.specs.declared.entry.Entry.{Entry}
use Rattle.i2c_base.specs.declared.entry.Entry.TheVariants as entry
use Rattle.i2c_base.specs.Board.{BoardView}
use Rattle.i2c_base.specs.Transfer.{TransferView}
use Rattle.i2c_spec.specs.Tree.{root_of}
use Rattle.i2c_spec.specs.Targets.{TargetState, IsQuiet, state_table}
use Rattle.i2c_spec.specs.Messages.{MessageView, messages_of}
use Rattle.i2c_spec.specs.World.{World, AreWorldsOf, devices_of}
use Rattle.i2c_spec.specs.Flat.{FlatListener, idle, is_member, flat_listener, granted_on, block_limit}
use Rattle.i2c_spec.specs.Conversation.{AllTold}
use Rattle.i2c_spec.specs.History.{Asks, History, history}
use Rattle.bus_spec.specs.Readings.{is_call, replies, order}
use Rattle.bus_spec.specs.Past.{now, world_at}
use Rattle.bus_laws.specs.Alike.{IsOf}
use Rattle.flat_laws.specs.Parts.{talk_part}

-- the first messages of a transfer in the flat world, none of which is its last, and no call of which fails
abbrev pub said_so_far : BoardView → TransferView → List TargetState → List MessageView → AllTold FlatListener
said_so_far b t xs before = talk_part (flat_listener (granted_on b t.bus t.force)) (block_limit b) (idle xs) before false 0 (λ i. None) []

-- how many messages of a caller's transfer under way stand in a past: those behind its last settle
abbrev pub calls_behind : List Entry → ℕ → ℕ
calls_behind [] c = 0
calls_behind (entry.Message k bus purpose part parts addr reading bytes heard e ∷ past) c =
    if (k == c) && is_call purpose then suc (calls_behind past c) else calls_behind past c
calls_behind (entry.Settle k r cut ∷ past) c = if k == c then 0 else calls_behind past c
calls_behind (entry.Take k l ∷ past) c = calls_behind past c
calls_behind (entry.Free k l ∷ past) c = calls_behind past c
calls_behind (entry.Line k mux level failed ∷ past) c = calls_behind past c

-- the devices of a root are those of the flat world, and one that the transfer under way hasn't named is quiet
pub record AreLeft (b : BoardView) (r : ℕ) (w : World) (f : FlatListener) : Type 0 where
  pub same : (d : ℕ) → IsOf b r d → slice_get w.devices d ≡ slice_get f.states d
  pub quiet : (d : ℕ) (x : TargetState) → IsOf b r d → is_member d f.named ≡ false → slice_get w.devices d ≡ Some x → IsQuiet state_table x

-- a caller's messages have begun on a root and not ended: its devices are those behind the messages of its transfer that
-- stand in the journal, on the devices that the transfers before left
pub record AreLeftInside (b : BoardView) (asks : Asks) (past : List Entry) (xs : List TargetState) (r c : ℕ) : Type 0 where
  pub whose : TransferView
  pub asked : asks c (replies past c) ≡ Some whose
  pub root : root_of b whose.bus ≡ r
  pub left : AreLeft b r (world_at b asks past r) (said_so_far b whose xs (take (calls_behind past c) (messages_of whose))).now

-- DEVICES: they are those that the flat world has after the same transfers, in the order of the settles
pub record KeepsDevices (b : BoardView) (asks : Asks) (past : List Entry) : Type 0 where
  pub told : History
  pub defined : history b asks (order past) ≡ Some told
  pub outside : (r : ℕ) → (now b asks past).inside r ≡ None → AreLeft b r (world_at b asks past r) (idle told.states)
  pub inside : (r c : ℕ) → (now b asks past).inside r ≡ Some c → AreLeftInside b asks past told.states r c

-- the worlds of the roots, in order
abbrev pub worlds_of : BoardView → Asks → List Entry → List World
worlds_of b asks past = map (world_at b asks past) (range_with_len 0 (length b.roots))

-- the devices of all roots' worlds together are those of the flat world
pub record LeavesDevices (b : BoardView) (asks : Asks) (past : List Entry) : Type 0 where
  pub told : History
  pub defined : history b asks (order past) ≡ Some told
  pub worlds : AreWorldsOf b (worlds_of b asks past)
  pub states : devices_of b (worlds_of b asks past) ≡ told.states

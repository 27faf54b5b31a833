-- What every journal keeps of the wires: which channels are open, and which are at a message.
use Rattle.std.specs.Prelude.{◌≡◌, ℕ, ◌<◌, true, false, ◌⊎◌, List, Some, length}
use Rattle.std.specs.List.{list_all}
use Rattle.i2c_base.specs.declared.ids.LockId.TheVariants as lock
use Rattle.i2c_base.specs.declared.entry.Entry.{Entry}
use Rattle.i2c_base.specs.declared.reply.Reply.{Reply}
use Rattle.i2c_base.specs.Board.{BoardView}
use Rattle.i2c_base.specs.Transfer.{TransferView, IsTransfer}
use Rattle.i2c_spec.specs.Tree.{hops, root_of, home_of_mux, is_left_open, IsOver}
use Rattle.i2c_spec.specs.Chips.{ChipView, is_open}
use Rattle.i2c_spec.specs.World.{opens_hop}
use Rattle.i2c_spec.specs.History.{Asks}
use Rattle.bus_spec.specs.Readings.{MessageEntry, OfMessage, holder, Everywhere}
use Rattle.bus_spec.specs.Past.{mark, kept_channel, world_at}
use Rattle.bus_spec.specs.Places.{switched_by}
use Rattle.bus_spec.specs.Tells.{HearsIn}
use Rattle.bus_laws.specs.Told.{chip_in}

-- each transfer that a caller asks for has a message
abbrev pub AsksForMessages : Asks → Type 0
AsksForMessages asks = (c : ℕ) (rs : List Reply) (t : TransferView) → asks c rs ≡ Some t → 0 < length t.msgs

-- and keeps the limits of the type of transfers
abbrev pub AsksWithinLimits : Asks → Type 0
AsksWithinLimits asks = (c : ℕ) (rs : List Reply) (t : TransferView) → asks c rs ≡ Some t → IsTransfer t.msgs t.out

-- a mux has exactly the channel open that it keeps, or none where it keeps none, as its chip stands in the world of its root.
-- One that disconnects keeps a channel only while the caller that switched it last has the lock of its bus
pub record KeepsItsChannel (b : BoardView) (asks : Asks) (past : List Entry) (m : ℕ) : Type 0 where
  pub opened : (c : ℕ) → kept_channel b asks past m ≡ Some c
      → (x : ChipView) × (chip_in b (world_at b asks past) m ≡ Some x) × (is_open x c ≡ true)
  pub only : (c : ℕ) (x : ChipView) → chip_in b (world_at b asks past) m ≡ Some x → is_open x c ≡ true → kept_channel b asks past m ≡ Some c
  pub locked : is_left_open b m ≡ false → (c : ℕ) → kept_channel b asks past m ≡ Some c
      → (caller : ℕ) × (switched_by past m ≡ Some caller) × (holder past (lock.Mux (home_of_mux b m)) ≡ Some caller)

-- each mux is the mark of its bus, or keeps its channel
abbrev pub KeepsClosed : BoardView → Asks → List Entry → Type 0
KeepsClosed b asks past = (m : ℕ) → (mark b asks past (home_of_mux b m) ≡ Some m) ⊎ KeepsItsChannel b asks past m

-- at a message every mux over its bus has the path's channel open, and who has heard it is who hears its start; its
-- caller has the root's lock, and that of each other bus on the path
pub record HasItsPath (b : BoardView) (asks : Asks) (past : List Entry) (m : MessageEntry) : Type 0 where
  pub path_open : list_all (opens_hop (world_at b asks past (root_of b m.bus)).chips) (hops b m.bus) ≡ true
  pub heard_told : HearsIn (world_at b asks past (root_of b m.bus)) m.addr m.reading m.heard m.end
  pub rooted : holder past (lock.Bus (root_of b m.bus)) ≡ Some m.caller
  pub locked : (q : ℕ) → IsOver b q m.bus → (q ≡ m.bus → ⊥) → holder past (lock.Mux q) ≡ Some m.caller

abbrev pub KeepsPathsOpen : BoardView → Asks → List Entry → Type 0
KeepsPathsOpen b asks past = Everywhere (λ e before. OfMessage (HasItsPath b asks before) e) past

-- A core that is just opened.
use Rattle.std.specs.Prelude.{◌≡◌, ℕ, ◌*◌, ◌<◌, ◌≤◌, IsTrue, List, [], length, map, Some, None, slice_get, slice_index_or}
use Rattle.i2c_base.specs.declared.port.Phase.TheVariants.{Idle}
use Rattle.i2c_base.specs.declared.reply.Cut.TheVariants as cut_at
use Rattle.i2c_base.specs.declared.ids.LockId.{LockId}
use Rattle.i2c_base.specs.Board.{BoardView}
use Rattle.i2c_base.specs.Limits.{MOST_CALLS}
use Rattle.i2c_spec.specs.Tree.{buses, depth}
use Rattle.i2c_spec.specs.World.{opening_world}
use Rattle.bus_spec.specs.Past.{begun}
use Rattle.seg_locks.specs.Locks.{LocksView, holder_in, opened}
use Rattle.bus_message.specs.Ports.{RootPort}
use Rattle.core_laws.specs.Spots.{AreRooted}
use Rattle.core_laws.specs.Core.{Place, numbers_of, Run, Whole, SeatKept}
use Rattle.core_laws.specs.Owed.{total}
use Rattle.core_laws.specs.Table.{AreDistinct}

-- how many muxes stand over each bus of the board
pub record AreDepths (b : BoardView) (depths : List ℕ) : Type 0 where
  pub all : length depths ≡ buses b
  pub each : (p : ℕ) → p < buses b → slice_index_or depths p 0 ≡ depth b p

-- nobody has a lock, no bus is marked, and no mux keeps a channel
pub record AreFree (v : LocksView) : Type 0 where
  pub holders : (l : LockId) → holder_in v l ≡ None
  pub marks : (bus : ℕ) → slice_index_or v.marks bus None ≡ None
  pub kept : (mux : ℕ) → slice_index_or v.kept mux None ≡ None

-- each caller has its first transfer loaded; nobody has a lock, no bus is marked, and no mux has a channel open; each port
-- is idle, and its world is that of its root
pub record IsOpened (run : Run) (whole : Whole) : Type 0 where
  pub nothing : whole.past ≡ []
  pub distinct : AreDistinct (numbers_of whole.places)
  pub below : (i : ℕ) (p : Place) → slice_get whole.places i ≡ Some p → p.number < run.callers
  pub once : AreRooted whole.sockets
  pub counted : length whole.owes ≡ length whole.places
  pub none_held : whole.held ≡ map (λ p. []) whole.places
  pub depths : List ℕ
  pub deep : AreDepths run.board depths
  pub locks_free : whole.locks ≡ opened depths (length run.board.roots) (length run.board.muxes)
  pub fresh : (i : ℕ) (p : Place) → slice_get whole.places i ≡ Some p → (p.taken ≡ []) × (p.owed ≡ []) × (p.got ≡ []) × (p.cut ≡ cut_at.No)
  pub loads : (i : ℕ) (p : Place) → slice_get whole.places i ≡ Some p → p.tree ≡ begun run.board (run.asks p.number [])
  pub seats : (i : ℕ) (p : Place) (n : ℕ) → slice_get whole.places i ≡ Some p → slice_get whole.owes i ≡ Some n → SeatKept run p [] n
  pub idle : (k : ℕ) (y : RootPort) → slice_get whole.sockets k ≡ Some y → y.phase ≡ Idle
  pub worlds : IsTrue run.tells → (k : ℕ) (y : RootPort) → slice_get whole.sockets k ≡ Some y
      → (y.world ≡ opening_world run.board y.root) × (y.log ≡ [])
  pub room_left : total whole.owes ≤ whole.room
  pub bytes_left : 2 * total whole.owes ≤ whole.room_bytes
  pub most : 2 * total whole.owes ≤ MOST_CALLS

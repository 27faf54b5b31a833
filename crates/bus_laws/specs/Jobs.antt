-- What a walk does its jobs on: the buses of one root. It knows nothing of locks, slots and worlds.
use Rattle.std.specs.Prelude.{◌≡◌, ℕ, ◌<◌, true, Option}
use Rattle.i2c_base.specs.Board.{BoardView}
use Rattle.i2c_base.specs.Transfer.{TransferView}
use Rattle.i2c_spec.specs.Tree.{buses, root_of}
use Rattle.bus_spec.specs.Walk.{Job, Take, Free, Send, Shift, Settle, ActOutcome, WalkTree, Ends, Look, Then, job_bus, is_line}

-- this is so of every job of which a walk sends a message or shifts the line, whatever its looks find and its steps give;
-- only the line of a gpio mux is shifted
abbrev pub EachJob : (Job → Type 0) → WalkTree → Type 0
EachJob P Ends = Unit {0}
EachJob P (Look ask next) = (m : Option ℕ) → EachJob P (next m)
EachJob P (Then (Take l) note next) = (out : ActOutcome) → EachJob P (next out)
EachJob P (Then (Free l) note next) = (out : ActOutcome) → EachJob P (next out)
EachJob P (Then (Send job left) note next) = P job × ((out : ActOutcome) → EachJob P (next out))
EachJob P (Then (Shift job) note next) = (is_line job ≡ true) × P job × ((out : ActOutcome) → EachJob P (next out))
EachJob P (Then (Settle verdict) note next) = (out : ActOutcome) → EachJob P (next out)

-- a job is done on a bus of the board, behind the root of the transfer's bus
pub record IsJobOf (b : BoardView) (t : TransferView) (job : Job) : Type 0 where
  pub there : job_bus job < buses b
  pub rooted : root_of b (job_bus job) ≡ root_of b t.bus

-- The failed calls of a run's ports: where they stand in the logs, and that the ports counted them.
use Rattle.std.specs.Prelude.{◌≡◌, ℕ, ◌≤◌, List, length, IsTrue, Some, slice_get}
use Rattle.i2c_base.specs.declared.port.PortCall.{PortCall}
use Rattle.i2c_base.specs.declared.port.PortCall.TheVariants as call
use Rattle.i2c_base.specs.Board.{BoardView}
use Rattle.bus_spec.specs.Faults.{faults_in}
use Rattle.ports.specs.declared.port.Port.{Ghosts as PortGhosts}

-- a port that tells counted each fault of its log
abbrev pub AccountsForFaults : {P : Type 0} → PortGhosts P → P → Type 0
AccountsForFaults g p = IsTrue g.tells → faults_in (g.log p) ≤ g.faults p

-- call n of the log of a root is a fault
pub record FaultAt (logs : List (List PortCall)) (root n : ℕ) : Type 0 where
  pub log : List PortCall
  pub here : slice_get logs root ≡ Some log
  pub fault : slice_get log n ≡ Some call.Fault

-- each root has its count, which is at least as many as the faults of its log
pub record AreCounted (b : BoardView) (logs : List (List PortCall)) (counts : List ℕ) : Type 0 where
  pub all : length counts ≡ length b.roots
  pub each : (root count : ℕ) (log : List PortCall) → slice_get counts root ≡ Some count → slice_get logs root ≡ Some log
      → faults_in log ≤ count

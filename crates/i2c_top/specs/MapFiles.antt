-- The file of a map of address translators: what its text says over a board, and what a run by it is.
use Rattle.std.specs.Prelude.{◌≡◌, ◌≢◌, ℕ, List, length}
use Rattle.i2c_base.specs.declared.port.PortCall.{PortCall}
use Rattle.i2c_base.specs.Board.{BoardView}
use Rattle.i2c_spec.specs.Targets.{TargetState}
use Rattle.bus_spec.specs.Schedule.{Follows}
use Rattle.addr_atr.specs.Lowering.{lowered}
use Rattle.addr_atr.specs.Maps.{MapView}
use Rattle.addr_atr.specs.MapTexts.{Fails}
use Rattle.addr_atr.specs.Runs.{translated_asks}
use Rattle.addr_atr.specs.declared.fault.MapFault.{MapFault}
use Rattle.addr_atr.specs.declared.fault.MapFault.TheVariants as fault
use Rattle.i2c_top.specs.Callers.{HasRunBy}
use Rattle.i2c_top.specs.Runs.{asks_by, printed_by}
use Rattle.i2c_top.specs.declared.status.Status.{Status}
use Rattle.i2c_top.specs.declared.status.Status.TheVariants as status

-- the first thing that is wrong with the text of a map is told by its status; being out of memory has a status of its own
pub record IsMapFault (b : BoardView) (text : List ℕ) (s : Status) : Type 0 where
  pub why : MapFault
  pub same : s ≡ status.Map why
  pub of_text : why ≢ fault.Memory
  pub fails : Fails b text why

-- these bytes are the report of a run over the lowered board: the callers ask for what the scripts ask for over the board as written,
-- translated, and print what these print
abbrev pub HasAtrRun : MapView → List (List ℕ) → (words bytes : List ℕ) → List (List PortCall) → List TargetState → List ℕ → Type 0
HasAtrRun m texts words bytes logs states counts =
    HasRunBy (lowered m.board m.translators) (length texts) (translated_asks m.board m.translators (asks_by m.board texts))
    (printed_by m.board texts) (Follows words) bytes logs states counts

-- What is so of each command as it runs, a row a kind: its transfers are within the limits, and what it prints is lines of a section.
use Rattle.caller_core.proofs.Cited.{ℕ, ◌<◌, List, All, IsSectionLine, BoardView, Reply, HandlesView, IsInRange, Cmd, IsAsk}
use Rattle.caller_core.proofs.Cited.{command_dialogue, command_run, handles_behind, CommandRun}
use Rattle.i2c_drivers.specs.Runs.{driver_run}
use Rattle.i2c_drivers.proofs.DriverLemmas as drivers
use Rattle.tools.specs.declared.command.Cmd.TheVariants as cmd
use Rattle.tools.proofs.CommandLemmas as tools
use Rattle.caller_core.proofs.HandleLemmas.{AreNear, handle_asks, handle_lines, near_after}

-- each of its transfers is within the limits
abbrev pub AsksWithin : CommandRun → Type 0
AsksWithin r = (k : ℕ) → k < (command_dialogue r).places → IsAsk ((command_dialogue r).at k)

-- whatever the replies, what it prints is lines, of which none is `journal`
abbrev pub HasSectionLines : CommandRun → Type 0
HasSectionLines r = (replies : List Reply) → All IsSectionLine ((command_dialogue r).lines replies)

pub asks : (b : BoardView) (v : HandlesView) (limit : ℕ) (c : Cmd) → IsInRange limit c → AreNear v → AsksWithin (command_run b v c)
asks b v limit (cmd.Tool t) range near = tools.asks b limit t range
asks b v limit (cmd.Driver d) range near = drivers.asks (driver_run b d) (drivers.opened b d range)
asks b v limit (cmd.Handle h) range near = handle_asks b v limit h range near

pub answers : (b : BoardView) (v : HandlesView) (c : Cmd) → HasSectionLines (command_run b v c)
answers b v (cmd.Tool t) = tools.answers b t
answers b v (cmd.Driver d) = drivers.answers (driver_run b d)
answers b v (cmd.Handle h) = handle_lines b v h

-- the handles after it are near where those before it are
pub near_behind : (b : BoardView) (v : HandlesView) (limit : ℕ) (c : Cmd) → IsInRange limit c → AreNear v → AreNear (handles_behind b v c)
near_behind b v limit (cmd.Tool t) range near = near
near_behind b v limit (cmd.Driver d) range near = near
near_behind b v limit (cmd.Handle h) range near = near_after b v limit h range near

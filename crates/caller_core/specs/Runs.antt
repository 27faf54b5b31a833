-- A command of a script as it runs, with the handles before it: a tool, a driver, or what a handle is used for.
use Rattle.i2c_base.specs.Board.{BoardView}
use Rattle.dev_handle.specs.Handles.{HandlesView}
use Rattle.i2c_drivers.specs.Runs as drivers
use Rattle.i2c_drivers.specs.Runs.{driver_run}
use Rattle.tools.specs.Commands as tools
use Rattle.tools.specs.Dialogues.{Dialogue}
use Rattle.tools.specs.Runs as forms
use Rattle.tools.specs.declared.command.Cmd.{Cmd}
use Rattle.tools.specs.declared.command.Cmd.TheVariants as cmd
use Rattle.caller_core.specs.HandleRuns.{handle_run, handles_after}
use Rattle.caller_core.specs.declared.run.CommandRun.{CommandRun}
use Rattle.caller_core.specs.declared.run.CommandRun.TheVariants as run

-- what it says to the bus
abbrev pub command_dialogue : CommandRun → Dialogue
command_dialogue (run.Tool r) = forms.dialogue_of r
command_dialogue (run.Driver r) = drivers.driver_dialogue r

-- how it runs, and the handles after it
abbrev pub command_run : BoardView → HandlesView → Cmd → CommandRun
command_run b v (cmd.Tool t) = run.Tool (tools.tool_run b t)
command_run b v (cmd.Driver d) = run.Driver (driver_run b d)
command_run b v (cmd.Handle h) = run.Tool (handle_run b v h)

abbrev pub handles_behind : BoardView → HandlesView → Cmd → HandlesView
handles_behind b v (cmd.Tool t) = v
handles_behind b v (cmd.Driver d) = v
handles_behind b v (cmd.Handle h) = handles_after b v h

-- What the worked examples have in common.
use Rattle.std.specs.Prelude.{ℕ, false}
use Rattle.i2c_base.specs.Board.{BoardView}
use Rattle.tools.specs.Commands.{tool_run}
use Rattle.tools.specs.Dialogues.{Dialogue}
use Rattle.tools.specs.Runs.{dialogue_of}
use Rattle.tools.specs.declared.command.ToolCmd.{ToolCmd}
use Rattle.tools.specs.declared.command.ToolCmd.TheVariants.{Dump}
use Rattle.tools.specs.declared.command.dump.DumpMode.{DumpMode}

-- what a tool says to the bus on this board
abbrev pub talk_of : BoardView → ToolCmd → Dialogue
talk_of b tool = dialogue_of (tool_run b tool)

-- what a dump of these registers of the device at 0x20 says to the bus
abbrev pub dump_talk : BoardView → DumpMode → (first last : ℕ) → Dialogue
dump_talk b mode first last =
    talk_of b (Dump (record { force = false; bus = 0; addr = 0x20; first = first; last = last; mode = mode; pec = false }))

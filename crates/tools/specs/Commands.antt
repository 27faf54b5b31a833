-- What each command is: its line, the range of what it means, and how it runs. A row for each.
use Rattle.std.specs.Prelude.{⊤, ℕ, ◌+◌, codes}
use Rattle.i2c_base.specs.Board.{BoardView}
use Rattle.i2c_base.specs.Limits.{MOST_MESSAGES, MOST_BYTES}
use Rattle.tools.specs.Combined.{combined_words, IsCombinedInRange}
use Rattle.tools.specs.Detects.{detect_words, IsDetectInRange, bus_lines}
use Rattle.tools.specs.DriverLines.{driver_lines, IsDriverInRange}
use Rattle.tools.specs.Dumps.{dump_words, IsDumpInRange}
use Rattle.tools.specs.Gets.{get_words, IsGetInRange, get_run}
use Rattle.tools.specs.Grammars.{Grammar, line_set, word_or}
use Rattle.tools.specs.HandleLines.{handle_lines, IsHandleInRange}
use Rattle.tools.specs.LineSets.{LineSet}
use Rattle.tools.specs.Sets.{set_words, IsSetInRange, set_run}
use Rattle.tools.specs.declared.command.Cmd.{Cmd}
use Rattle.tools.specs.declared.command.Cmd.TheVariants as cmd
use Rattle.tools.specs.declared.command.ToolCmd.{ToolCmd}
use Rattle.tools.specs.declared.command.ToolCmd.TheVariants as tool
use Rattle.tools.specs.declared.run.ToolRun.{ToolRun}
use Rattle.tools.specs.declared.run.ToolRun.TheVariants as run

-- ---- the lines of a script

-- the grammar, where a block of the board has at most `limit` bytes
unfoldable pub grammar : (limit : ℕ) → Grammar Cmd
grammar limit =
    word_or (codes "i2cget") get_words
    (word_or (codes "i2cset") (set_words limit)
    (word_or (codes "i2ctransfer") combined_words
    (word_or (codes "i2cdump") dump_words
    (word_or (codes "i2cdetect") detect_words
    (driver_lines (handle_lines limit))))))

abbrev pub script_lines : (limit : ℕ) → LineSet Cmd
script_lines limit = line_set (grammar limit)

-- the words of the longest line: i2ctransfer -f -y BUS, then the most messages, with the most bytes, of which each is written
abbrev pub MOST_WORDS : ℕ
MOST_WORDS = 4 + MOST_MESSAGES + MOST_BYTES

-- each field of a command is in its range
abbrev pub IsToolInRange : (limit : ℕ) → ToolCmd → Type 0
IsToolInRange limit (tool.Get g) = IsGetInRange g
IsToolInRange limit (tool.Set s) = IsSetInRange limit s
IsToolInRange limit (tool.Combined c) = IsCombinedInRange c
IsToolInRange limit (tool.Dump d) = IsDumpInRange d
IsToolInRange limit tool.List = ⊤
IsToolInRange limit (tool.Detect d) = IsDetectInRange d

abbrev pub IsInRange : (limit : ℕ) → Cmd → Type 0
IsInRange limit (cmd.Tool t) = IsToolInRange limit t
IsInRange limit (cmd.Driver d) = IsDriverInRange d
IsInRange limit (cmd.Handle h) = IsHandleInRange limit h

-- ---- a tool that runs

-- its form, with what the board says of it
abbrev pub tool_run : BoardView → ToolCmd → ToolRun
tool_run b (tool.Get g) = get_run g
tool_run b (tool.Set s) = set_run s
tool_run b (tool.Combined c) = run.Transfers c
tool_run b (tool.Dump d) = run.Dumps d
tool_run b tool.List = run.Says (bus_lines b)
tool_run b (tool.Detect d) = run.Scans d

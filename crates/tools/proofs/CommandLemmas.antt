-- What is so of every command: a row for each.
use Rattle.tools.proofs.Cited.{ℕ, arith, BoardView, MOST_WORDS, IsInRange, bus_lines}
use Rattle.tools.specs.Commands.{grammar, IsToolInRange, tool_run}
use Rattle.tools.specs.Detects.{detect_words}
use Rattle.tools.specs.Dumps.{dump_words}
use Rattle.tools.specs.Gets.{get_words}
use Rattle.tools.specs.Sets.{set_words}
use Rattle.tools.specs.HandleLines.{handle_lines}
use Rattle.tools.specs.declared.command.ToolCmd.{ToolCmd}
use Rattle.tools.specs.declared.command.ToolCmd.TheVariants as tool
use Rattle.tools.proofs.CombinedRanges.{combined_line_fits, combined_line_within}
use Rattle.tools.proofs.DetectLemmas.{detect_fits, detect_within, list_lines}
use Rattle.tools.proofs.DriverLineLemmas.{drivers_fit, drivers_within}
use Rattle.tools.proofs.DumpLemmas.{dump_fits, dump_within}
use Rattle.tools.proofs.FormLemmas.{AsksWithin, HasSectionLines, says_nothing, transfer_asks_within, dump_asks_within, scan_asks_within}
use Rattle.tools.proofs.FormLemmas.{says_lines, transfer_lines, dump_section_lines, scan_lines}
use Rattle.tools.proofs.GetLemmas.{get_fits, get_within, get_asks, get_lines}
use Rattle.tools.proofs.GrammarLemmas.{AllEnds, EndsWithin, ends_within_most}
use Rattle.tools.proofs.HandleLineLemmas.{handles_fit, handles_within}
use Rattle.tools.proofs.SetLemmas.{set_line_fits, set_line_within}
use Rattle.tools.proofs.SetRuns.{set_asks, set_lines}

-- what its line means is in range
pub lines_fit : (limit : ℕ) → AllEnds (IsInRange limit) (grammar limit)
unfolding grammar
lines_fit limit = (
  get_fits limit,
  (
    set_line_fits limit,
    (
      combined_line_fits limit,
      (
        dump_fits limit,
        (
          detect_fits limit,
          drivers_fit limit (handle_lines limit) (handles_fit limit),
        ),
      ),
    ),
  ),
)

-- its line has no more than the most words
pub lines_within : (limit : ℕ) → EndsWithin MOST_WORDS (grammar limit)
unfolding grammar
lines_within limit = (
  ends_within_most 7 4141 get_words (omega arith) get_within,
  (
    ends_within_most 261 4141 (set_words limit) (omega arith) (set_line_within limit),
    (
      combined_line_within,
      (
        ends_within_most 7 4141 dump_words (omega arith) dump_within,
        (
          ends_within_most 5 4141 detect_words (omega arith) detect_within,
          drivers_within (handle_lines limit) (handles_within limit),
        ),
      ),
    ),
  ),
)

-- a tool asks for transfers within the limits
pub asks : (b : BoardView) (limit : ℕ) (c : ToolCmd) → IsToolInRange limit c → AsksWithin (tool_run b c)
asks b limit (tool.Get g) range = get_asks g range
asks b limit (tool.Set s) range = set_asks limit s range
asks b limit (tool.Combined t) range = transfer_asks_within t range
asks b limit (tool.Dump d) range = dump_asks_within d range
asks b limit tool.List range = says_nothing (bus_lines b)
asks b limit (tool.Detect d) range = scan_asks_within d

-- it prints lines, of which none is `journal`
pub answers : (b : BoardView) (c : ToolCmd) → HasSectionLines (tool_run b c)
answers b (tool.Get g) = get_lines g
answers b (tool.Set s) = set_lines s
answers b (tool.Combined t) = transfer_lines t
answers b (tool.Dump d) = dump_section_lines d
answers b tool.List = says_lines (bus_lines b) (list_lines b)
answers b (tool.Detect d) = scan_lines d

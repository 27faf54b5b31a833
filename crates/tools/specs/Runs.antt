-- A command as it runs, a row a form.
use Rattle.tools.specs.Calls.{calls}
use Rattle.tools.specs.Chains.{chains}
use Rattle.tools.specs.Dialogues.{Dialogue}
use Rattle.tools.specs.DumpTables.{dumps}
use Rattle.tools.specs.Says.{says}
use Rattle.tools.specs.Scans.{scans}
use Rattle.tools.specs.Transfers.{transfers}
use Rattle.tools.specs.declared.run.ToolRun.{ToolRun}
use Rattle.tools.specs.declared.run.ToolRun.TheVariants as run

-- what it says to the bus, by the definition of its form
abbrev pub dialogue_of : ToolRun → Dialogue
dialogue_of (run.Says lines) = says lines
dialogue_of (run.Calls call) = calls call
dialogue_of (run.Chains chain) = chains chain
dialogue_of (run.Dumps dump) = dumps dump
dialogue_of (run.Transfers combined) = transfers combined
dialogue_of (run.Scans d) = scans d

-- What is not in the section of a script.
use Rattle.std.specs.Prelude.{List}
use Rattle.i2c_base.specs.declared.reply.Reply.{Reply}
use Rattle.bus_journal.specs.Reports.{HasNoJournalLine}
use Rattle.caller_core.specs.Scripts.{commands_of, section_text}
use Rattle.caller_core.specs.View.{ScriptView}

-- whatever the script and the replies: its section is whole lines, of which none is `journal`
abbrev pub SectionsHaveNoJournalLine : Type 0
SectionsHaveNoJournalLine = (script : ScriptView) (replies : List Reply) → HasNoJournalLine (section_text (commands_of script) replies)

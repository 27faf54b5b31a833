-- A command that is refused without a transfer, and tells why.
use Rattle.std.specs.Prelude.{[], ◌∷◌}
use Rattle.bus_spec.specs.Lines.{errno_text}
use Rattle.i2c_base.specs.declared.errno.Errno.{Errno}
use Rattle.tools.specs.Dialogues.{Dialogue}
use Rattle.tools.specs.Says.{says}

-- what it says to the bus: the name of the error alone
abbrev pub refused : Errno → Dialogue
refused e = says (errno_text e ∷ [])

-- The board that a rig without targets was plugged for.
use Rattle.std.specs.Prelude.{[]}
use Rattle.std.specs.Option.{option_map_or}
use Rattle.i2c_base.specs.Board.{BoardView}
use Rattle.examples_rig.specs.declared.quiet_rig.QuietRig.{QuietRig}

-- .. and a board without anything before the first plug
abbrev pub board_of : QuietRig → BoardView
board_of r = option_map_or (λ b. b.value) r.board (record { version = 1; roots = []; muxes = []; devices = [] })

use Rattle.i2c_top.proofs.Cited.{HasRoots, commands_of}
use Rattle.i2c_top.proofs.Numbering.{StandBeside}
use Rattle.i2c_top.proofs.callers.masks_of.Given as goal

abbrev pub invariant-loop-script : goal.invariant-loop-script
invariant-loop-script l = StandBeside (λ s mask. HasRoots s.script.board (commands_of s.script) mask) l.scripts l.script-index l.masks.items

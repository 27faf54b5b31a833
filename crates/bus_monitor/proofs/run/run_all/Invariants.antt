use Rattle.bus_core.specs.State.{roots_in}
use Rattle.bus_monitor.proofs.run.run_all.Given as goal

abbrev pub ghosts-run_named : goal.ghosts-run_named
ghosts-run_named g a = record { opening = a.core.opening; roots = roots_in a.core }

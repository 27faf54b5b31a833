use Rattle.i2c_top.proofs.Cited.{gaps_by}
use Rattle.i2c_top.proofs.check_journal.found.Given as goal

-- the ports are named for the lines at hand
abbrev pub ghosts-followed : goal.ghosts-followed
ghosts-followed a = record { gaps = gaps_by a.board.now a.lines.now }

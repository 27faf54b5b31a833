use Rattle.tools.proofs.command.dump.+read_options.Given as goal

abbrev pub decreases-read_options : goal.decreases-read_options
decreases-read_options l = l.left

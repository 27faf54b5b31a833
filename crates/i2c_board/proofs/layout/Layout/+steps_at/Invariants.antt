use Rattle.i2c_board.proofs.layout.Layout.+steps_at.Given as goal

abbrev pub decreases-steps_at : goal.decreases-steps_at
decreases-steps_at l = l.seg

-- The board whose parts a layout borrows.
use Rattle.i2c_base.specs.Board.{BoardView}
use Rattle.i2c_board.specs.declared.layout.Layout.{Layout}

abbrev pub board_of : Layout → BoardView
board_of l = record { version = l.version; roots = l.roots.now; muxes = l.muxes.now; devices = l.devices.now }

use Rattle.i2c_board.proofs.Cited.{◌≡◌, ◌+◌, length, arith, board_of, buses}
use Rattle.i2c_board.proofs.WayLemmas.{length-kept}
use Rattle.i2c_board.proofs.layout.Layout.buses.Goals as goal
use Rattle.i2c_board.specs.declared.layout.Layout.{Layout}

-- the roots, and a hop for each bus behind them
count : (l : Layout) → length l.roots.now + length l.by_bus.now ≡ buses (board_of l)
count l = length-kept (board_of l) l.by_bus.now l.by_number

pub overflow_cast-result-2 : goal.overflow_cast-result-2
overflow_cast-result-2 c = omega (arith, count c.args.self.now, c.requires)

pub overflow_add-result : goal.overflow_add-result
overflow_add-result c = omega (arith, count c.args.self.now, c.requires)

pub returns : goal.returns
returns c = count c.args.self.now

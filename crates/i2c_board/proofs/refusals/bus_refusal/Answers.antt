use Rattle.i2c_board.proofs.Cited.{arith, buses_le}
use Rattle.i2c_board.proofs.refusals.bus_refusal.Goals as goal

pub buses-requires : goal.buses-requires
buses-requires c = let small = buses_le _ c.requires in omega arith

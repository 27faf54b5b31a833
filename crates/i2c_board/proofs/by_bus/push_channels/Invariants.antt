use Rattle.i2c_board.proofs.Cited.{◌≡◌, ◌++◌, channel_hops}
use Rattle.i2c_board.proofs.by_bus.push_channels.Given as goal

abbrev pub invariant-loop-channel : goal.invariant-loop-channel
invariant-loop-channel l = l.hops.items ≡ l.fn.hops.items ++ channel_hops l.first l.fn.number l.mux l.channel

use Rattle.std.proofs.Common.{◌≡◌, ◌≤◌, ◌*◌, length, vec_capacity}
use Rattle.std.specs.List.{range_with_len, flat_map}
use Rattle.i2c_gen.specs.Boards.{devices_of}
use Rattle.i2c_gen.proofs.board.made_devices.Given as goal

abbrev pub invariant-loop-k : goal.invariant-loop-k
invariant-loop-k l = record {
  room : 2 * l.channels ≤ vec_capacity l.all;
  count : length l.all.items ≡ 2 * l.k;
  so_far : l.all.items ≡ flat_map (devices_of l.roots) (range_with_len 0 l.k);
}

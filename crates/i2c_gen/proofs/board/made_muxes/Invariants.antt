use Rattle.std.proofs.Common.{◌≡◌, ◌≤◌, length, map, vec_capacity}
use Rattle.std.specs.List.{range_with_len}
use Rattle.i2c_gen.specs.Boards.{switch_of}
use Rattle.i2c_gen.proofs.board.made_muxes.Given as goal

abbrev pub invariant-loop-root : goal.invariant-loop-root
invariant-loop-root l = record {
  count : length l.all.items ≡ l.root;
  room : l.roots ≤ vec_capacity l.all;
  so_far : l.all.items ≡ map switch_of (range_with_len 0 l.root);
}

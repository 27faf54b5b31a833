use Rattle.std.proofs.Common.{◌≡◌, ◌≤◌, length, vec_capacity}
use Rattle.i2c_gen.specs.Boards.{made_board}
use Rattle.i2c_gen.proofs.board.made_roots.Given as goal

abbrev pub invariant-loop : goal.invariant-loop
invariant-loop l = record {
  count : length l.all.items ≡ l.counter;
  room : l.roots ≤ vec_capacity l.all;
  so_far : l.all.items ≡ (made_board l.counter).roots;
}

use Rattle.i2c_boardtext.proofs.Cited.{◌≡◌, ◌≤◌, length, drop, vec_capacity, each, root_in_table, roots_of, rows_of, Root}
use Rattle.i2c_boardtext.proofs.root.roots_of.Given as goal

-- what is read and what is left are the whole
abbrev pub invariant-loop-value : goal.invariant-loop-value
invariant-loop-value l = record {
  count : length l.roots.items ≡ l.value-index;
  room : length l.rows ≤ vec_capacity l.roots;
  told : each Root (λ before. root_in_table) l.roots.items (rows_of (drop l.value-index l.rows)) ≡ roots_of (rows_of l.rows);
}

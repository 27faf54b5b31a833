use Rattle.i2c_boardtext.proofs.Cited.{◌≡◌, ◌+◌, ◌≤◌, length, drop, vec_capacity, All, reverse, IsPlainMux, IsPlanted, buses_of, each}
use Rattle.i2c_boardtext.proofs.Cited.{mux_of, muxes_of, rows_of, Mux}
use Rattle.std.proofs.Common.{◌*◌}
use Rattle.i2c_boardtext.proofs.mux.muxes_of.Given as goal

-- what is read and what is left are the whole
abbrev pub invariant-loop-value : goal.invariant-loop-value
invariant-loop-value l = record {
  count : length l.muxes.items ≡ l.value-index;
  room : length l.rows ≤ vec_capacity l.muxes;
  buses : l.buses ≡ buses_of l.fn.roots l.muxes.items;
  few : l.buses ≤ 8 + 8 * l.value-index;
  some : 1 ≤ l.buses;
  plain : All IsPlainMux l.muxes.items;
  planted : IsPlanted l.fn.roots (reverse l.muxes.items);
  told : each Mux (λ before. mux_of (buses_of l.fn.roots before)) l.muxes.items (rows_of (drop l.value-index l.rows)) ≡ muxes_of l.fn.roots
      (rows_of l.rows);
}

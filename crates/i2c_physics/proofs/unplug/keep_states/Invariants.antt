-- The devices that are kept and those that are left are the whole; who is there at a port was there at first.
use Rattle.i2c_physics.proofs.Cited.{◌≡◌, ℕ, ◌<◌, ◌≤◌, ◌+◌, ◌++◌, map, drop, vec_len, vec_capacity, slice_index, states_from, IsThere}
use Rattle.i2c_physics.proofs.unplug.keep_states.Given as goal

abbrev pub invariant-loop-number : goal.invariant-loop-number
invariant-loop-number g l = record {
  grown : vec_capacity l.fn.states ≤ vec_capacity l.states;
  most : vec_len l.states ≤ vec_len l.fn.states + l.number;
  kept : l.states.items ++ states_from l.number (drop l.number l.homes.items) (map (λ p. (g.P.Returned.port p).world) l.ports.items)
      ≡ l.fn.states.items ++ states_from 0 l.homes.items (map (λ p. (g.P.Returned.port p).world) l.fn.ports.items);
  there : (k : ℕ) → k < l.number → IsThere (map (λ p. (g.P.Returned.port p).world) l.fn.ports.items) (slice_index l.homes.items k) k;
  before : (home k : ℕ) → IsThere (map (λ p. (g.P.Returned.port p).world) l.ports.items) home k
      → IsThere (map (λ p. (g.P.Returned.port p).world) l.fn.ports.items) home k;
  logs : map (λ p. (g.P.Returned.port p).log) l.ports.items ≡ map (λ p. (g.P.Returned.port p).log) l.fn.ports.items;
}

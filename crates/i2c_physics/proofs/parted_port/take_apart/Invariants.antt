-- There is room for the ports that are left.
use Rattle.i2c_physics.proofs.Cited.{◌≡◌, ◌≤◌, ◌+◌, ◌++◌, length, map, vec_len, vec_capacity, All, edges_of, parted}
use Rattle.i2c_physics.proofs.parted_port.take_apart.Given as goal

abbrev pub invariant-loop-port : goal.invariant-loop-port
invariant-loop-port g l = record {
  grown : vec_capacity l.fn.done ≤ vec_capacity l.done;
  whole : length l.yielded + l.port-iterator.rest.len ≡ vec_len l.fn.ports;
  kept : vec_len l.fn.done + vec_len l.fn.ports ≤ vec_capacity l.fn.done → l.done.items ≡ l.fn.done.items ++ map parted l.yielded;
  edges : l.edges ≡ edges_of l.yielded;
  faults : All (λ p. p.faults ≡ 0) l.yielded;
}

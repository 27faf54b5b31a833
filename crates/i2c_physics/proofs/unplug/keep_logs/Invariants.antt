-- There is room for the logs of the ports that are left.
use Rattle.i2c_physics.proofs.Cited.{◌≡◌, ◌≤◌, ◌+◌, ◌++◌, length, map, vec_len, vec_capacity}
use Rattle.i2c_physics.proofs.unplug.keep_logs.Given as goal

abbrev pub invariant-loop-port : goal.invariant-loop-port
invariant-loop-port g l = record {
  grown : vec_capacity l.fn.logs ≤ vec_capacity l.logs;
  whole : length l.yielded + l.port-iterator.rest.len ≡ vec_len l.fn.ports;
  kept : vec_len l.fn.logs + vec_len l.fn.ports ≤ vec_capacity l.fn.logs
      → map (λ log. log.items) l.logs.items ≡ map (λ log. log.items) l.fn.logs.items ++ map (λ p. (g.P.Returned.port p).log) l.yielded;
}

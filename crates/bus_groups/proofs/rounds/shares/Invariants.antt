use Rattle.bus_groups.proofs.Cited.{◌≡◌, ◌≤◌, ◌++◌, length, map, vec_capacity, range_with_len, into_iter_items, cost_of_home}
use Rattle.bus_groups.proofs.rounds.shares.Given as goal

abbrev pub invariant-loop-ports : goal.invariant-loop-ports
invariant-loop-ports g l = record {
  ports : map (λ share. share.ports) l.shares.items ≡ l.yielded;
  callers : map (λ share. share.callers) l.shares.items ++ l.callers.items ≡ l.fn.callers.items;
  goes : l.yielded ++ into_iter_items l.ports-iterator ≡ l.fn.ports.items;
  room : length l.fn.ports.items ≤ vec_capacity l.shares;
  limits : map (λ share. share.limit) l.shares.items ≡ map (λ h. cost_of_home l.homes h l.costs) (range_with_len 0 (length l.shares.items));
  same : length l.fn.ports.items ≡ length l.fn.callers.items;
}

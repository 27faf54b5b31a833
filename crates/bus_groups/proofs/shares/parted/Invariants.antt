use Rattle.bus_groups.proofs.Cited.{◌≡◌, ◌≤◌, ◌++◌, length, map, All, vec_capacity, into_iter_items, parts_by}
use Rattle.bus_groups.proofs.shares.parted.Given as goal

abbrev pub invariant-loop-item : goal.invariant-loop-item
invariant-loop-item g l = record {
  parts : map (λ part. part.items) l.parts.items ≡ parts_by l.homes l.fn.many l.yielded;
  room : All (λ part. length l.homes ≤ vec_capacity part) l.parts.items;
  count : length l.parts.items ≡ l.fn.many;
  place : l.place ≡ length l.yielded;
  goes : l.yielded ++ into_iter_items l.item-iterator ≡ l.fn.items.items;
}

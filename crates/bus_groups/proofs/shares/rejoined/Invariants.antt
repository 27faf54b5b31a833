use Rattle.bus_groups.proofs.Cited.{◌≡◌, ◌≤◌, ◌++◌, length, map, drop, vec_capacity, joined_by}
use Rattle.bus_groups.proofs.shares.rejoined.Given as goal

abbrev pub invariant-loop-home : goal.invariant-loop-home
invariant-loop-home g l = record {
  all : l.all.items ++ joined_by (drop l.home-index l.homes) (map (λ part. part.items) l.parts.items) ≡ joined_by l.homes
      (map (λ part. part.items) l.fn.parts.items);
  count : length l.parts.items ≡ length l.fn.parts.items;
  few : length l.all.items ≤ l.home-index;
  room : length l.homes ≤ vec_capacity l.all;
}

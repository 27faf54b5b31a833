use Rattle.bus_groups.proofs.Cited.{◌≡◌, ◌≤◌, length, [], All, vec_capacity}
use Rattle.bus_groups.proofs.shares.lists.Given as goal

abbrev pub invariant-loop-part : goal.invariant-loop-part
invariant-loop-part g l = record {
  count : length l.parts.items ≡ l._part;
  empty : All (λ part. part.items ≡ []) l.parts.items;
  room : All (λ part. l.room ≤ vec_capacity part) l.parts.items;
  wide : l.many ≤ vec_capacity l.parts;
}

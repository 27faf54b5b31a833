use Rattle.bus_groups.proofs.Cited.{◌≡◌, ◌≤◌, ◌++◌, length, vec_capacity, AllZip, into_iter_items, IsOpenedWith}
use Rattle.bus_groups.proofs.rounds.opened.Given as goal

abbrev pub invariant-loop-share : goal.invariant-loop-share
invariant-loop-share g l = record {
  slots : AllZip (λ share slot. IsOpenedWith g.P.Port g.C.Caller l.board share slot.core) l.yielded l.slots.items;
  goes : l.yielded ++ into_iter_items l.share-iterator ≡ l.fn.shares.items;
  room : length l.fn.shares.items ≤ vec_capacity l.slots;
}

use Rattle.bus_groups.proofs.Cited.{◌≡◌, ◌≤◌, ◌++◌, length, vec_capacity, AllZip, into_iter_items, AreLeftOf}
use Rattle.bus_groups.proofs.rounds.left.Given as goal

abbrev pub invariant-loop-slot : goal.invariant-loop-slot
invariant-loop-slot g l = record {
  left : AllZip (λ slot parts. AreLeftOf g.P.Port g.C.Caller slot.core parts) l.yielded l.left.items;
  goes : l.yielded ++ into_iter_items l.slot-iterator ≡ l.fn.slots.items;
  room : length l.fn.slots.items ≤ vec_capacity l.left;
}

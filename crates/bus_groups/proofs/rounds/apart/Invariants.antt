use Rattle.bus_groups.proofs.Cited.{◌≡◌, ◌≤◌, ◌++◌, length, map, vec_capacity, into_iter_items}
use Rattle.bus_groups.proofs.rounds.apart.Given as goal

abbrev pub invariant-loop-part : goal.invariant-loop-part
invariant-loop-part g l = record {
  ports : l.all.ports.items ≡ map (λ x. x.ports) l.yielded;
  seats : l.all.seats.items ≡ map (λ x. x.seats) l.yielded;
  journals : l.all.journals.items ≡ map (λ x. x.journal) l.yielded;
  goes : l.yielded ++ into_iter_items l.part-iterator ≡ l.fn.parts.items;
  room_ports : length l.fn.parts.items ≤ vec_capacity l.all.ports;
  room_seats : length l.fn.parts.items ≤ vec_capacity l.all.seats;
  room_journals : length l.fn.parts.items ≤ vec_capacity l.all.journals;
}

use Rattle.bus_core.proofs.Cited.{◌≡◌, ◌≤◌, ◌++◌, length, vec_capacity, into_iter_items, into_iter_len, roots_of, AreSeated}
use Rattle.bus_core.proofs.opening.seats_of.Given as goal

abbrev pub invariant-loop-number : goal.invariant-loop-number
invariant-loop-number g l =
    record {
      board : l.board ≡ l.fn.board;
      seated : AreSeated g.C.Caller l.fn.board (roots_of l.ports) l.fn.callers.items (length l.yielded) l.seats.items l.places.items;
      goes : l.yielded ++ into_iter_items l.number-iterator ≡ l.fn.callers.items;
      rest : into_iter_len l.number-iterator ≡ length (into_iter_items l.number-iterator);
      room : length l.fn.callers.items ≤ vec_capacity l.seats;
    }

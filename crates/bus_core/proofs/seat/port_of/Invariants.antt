use Rattle.bus_core.proofs.Cited.{◌≡◌, ◌<◌, ℕ, Some, length, slice_get, roots_of}
use Rattle.bus_core.proofs.seat.port_of.Given as goal

-- no port so far has the root
abbrev pub invariant-loop-place : goal.invariant-loop-place
invariant-loop-place g l =
    record {
      end_is : l.place-end ≡ length l.ports;
      before : (i : ℕ) → i < l.place → slice_get (roots_of l.ports) i ≡ Some l.root → ⊥;
    }

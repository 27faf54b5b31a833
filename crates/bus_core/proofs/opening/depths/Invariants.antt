use Rattle.bus_core.proofs.Cited.{◌≡◌, ◌<◌, ◌≤◌, ℕ, length, vec_capacity, All, buses, depth, IsDepth}
use Rattle.std.specs.Prelude.{slice_index_or}
use Rattle.bus_core.proofs.opening.depths.Given as goal

-- the buses so far have their depths
abbrev pub invariant-loop-bus : goal.invariant-loop-bus
invariant-loop-bus l =
    record {
      end_is : l.bus-end ≡ buses l.board;
      so_far : length l.depths.items ≡ l.bus;
      each : (p : ℕ) → p < l.bus → slice_index_or l.depths.items p 0 ≡ depth l.board p;
      few : All IsDepth l.depths.items;
      room : buses l.board ≤ vec_capacity l.depths;
    }

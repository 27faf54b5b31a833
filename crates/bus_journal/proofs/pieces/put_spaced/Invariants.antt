use Rattle.bus_journal.proofs.Cited.{◌≡◌, ◌+◌, ◌*◌, ◌++◌, length, take, flat_map, spaced_digits}
use Rattle.bus_journal.proofs.pieces.put_spaced.Given as goal

abbrev pub invariant-loop-byte : goal.invariant-loop-byte
invariant-loop-byte l =
    (l.room ≡ l.fn.room ++ flat_map spaced_digits (take l.byte-index l.bytes)) × (length l.room ≡ length l.fn.room + 3 * l.byte-index)

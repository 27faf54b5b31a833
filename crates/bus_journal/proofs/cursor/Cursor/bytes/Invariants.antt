use Rattle.bus_journal.proofs.Cited.{◌≡◌, ◌≤◌, ◌++◌, length, take, bytes_of}
use Rattle.bus_journal.specs.Guess.{behind_bytes}
use Rattle.bus_journal.proofs.cursor.Cursor.bytes.Given as goal

abbrev pub invariant-loop-byte : goal.invariant-loop-byte
invariant-loop-byte l =
    (length l.bytes ≤ l.most) × (take l.most (l.bytes ++ bytes_of l.self) ≡ take l.most (bytes_of l.fn.self))
    × (behind_bytes l.self ≡ behind_bytes l.fn.self)

abbrev pub decreases-loop-byte : goal.decreases-loop-byte
decreases-loop-byte l = length l.self

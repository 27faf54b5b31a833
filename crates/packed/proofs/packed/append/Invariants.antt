use Rattle.std.proofs.Common.{◌≡◌, ◌+◌, ◌≤◌, ◌++◌, take, vec_len, vec_capacity}
use Rattle.packed.proofs.packed.append.Given as goal

-- the bytes so far stand at the end, and there is as much room as before
abbrev pub invariant-loop-byte : goal.invariant-loop-byte
invariant-loop-byte l =
    (l.store.items ≡ l.fn.store.items ++ take l.byte-index l.bytes)
    × (vec_len l.store ≡ vec_len l.fn.store + l.byte-index)
    × (vec_capacity l.fn.store ≤ vec_capacity l.store)

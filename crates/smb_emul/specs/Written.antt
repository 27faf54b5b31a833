-- The bytes of a write as a list. Only the crate's private clauses cite it.
use Rattle.std.specs.Prelude.{ℕ, List, ◌++◌}
use Rattle.smb_emul.specs.declared.written.Written.{Written}

-- the bytes of the head, and after them those of the block
abbrev pub written_bytes : Written → List ℕ
written_bytes w = w.head ++ w.block.now

use Rattle.std.proofs.Common.{take}
use Rattle.smb_emul.specs.Codes.{RunsOn}
use Rattle.smb_emul.proofs.codes.code_behind.Given as goal

-- the code has run along the bytes so far
abbrev pub invariant-loop-byte : goal.invariant-loop-byte
invariant-loop-byte l = RunsOn l.fn.code (take l.byte-index l.bytes) l.along

use Rattle.std.proofs.Common.{◌≡◌, take}
use Rattle.smb_pec.specs.LongDivision.{pec}
use Rattle.smb_pec.proofs.error_code.pec.Given as goal

-- the code of the bytes so far
abbrev pub invariant-loop-byte : goal.invariant-loop-byte
invariant-loop-byte l = l.code ≡ pec (take l.byte-index l.bytes)

-- A start, whatever the message before it was: where it reads, a write that is due takes effect first.
use Rattle.std.proofs.Common.{◌≡◌, ℕ, Bool, true, false, List, [], refl}
use Rattle.std.specs.Prelude.{if◌then◌else◌}
use Rattle.smb_pec.specs.LongDivision.{pec_with}
use Rattle.i2c_spec.specs.Targets.SmbusDevice.{SmbusView, SmbusPhase, address_byte, code_so_far, smbus_begun, smbus_start, with_effect}

pub started
    : (x v : SmbusView) (reading : Bool) (code so_far byte : ℕ) (held : List ℕ) (phase : SmbusPhase)
    → v ≡ (if reading then with_effect x else x)
    → so_far ≡ code_so_far v v.phase → byte ≡ address_byte v.addr reading → code ≡ pec_with so_far byte → held ≡ []
    → phase ≡ smbus_begun reading
    → record v { phase = phase; code = code; held = held } ≡ smbus_start x reading
started x v true code so_far byte held phase is before address runs empty begun = rw (begun, empty, runs, before, address, is) refl
started x v false code so_far byte held phase is before address runs empty begun = rw (begun, empty, runs, before, address, is) refl

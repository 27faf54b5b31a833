use Rattle.i2c_top.proofs.Cited.{◌≡◌, ℕ, ◌⊎◌, List, sym, subst, IsFaultIn, IsVerified, checked_on, CameToRefusal, texts_of, verify_form}
use Rattle.i2c_top.proofs.Cited.{verify_told}
use Rattle.journal_check.specs.declared.fault.CheckFault.TheVariants as fault
use Rattle.i2c_top.proofs.VerifyLemmas.{fault_told, verify_done}
use Rattle.i2c_top.proofs.forms.verify.verify.Goals as goal

pub returns-in-Ok-clause-done : goal.returns-in-Ok-clause-done
returns-in-Ok-clause-done g c =
    let f = c.in_ok-board.field-0 in
    let read = c.in_ok-board.ensures in
    λ rig. verify_done (verify_told c.args.names.now) _ _ rig c.read_files.ensures.kept f.board (texts_of f.scripts.items) f.journal.items
    read.read read.cheap read.plain read.some c.in-Ok.entries _
    (subst (λ (t : List ℕ). IsVerified (checked_on f.board (texts_of f.scripts.items)) t c.in-Ok.entries) c.as_slice.ensures.value
    c.in-Ok.ensures.verified)
    c.in_ok-verified_line-in-Ok.ensures

pub returns-clause-refused : goal.returns-clause-refused
returns-clause-refused g c =
    let f = c.in_ok-board.field-0 in
    let read = c.in_ok-board.ensures in
    let names = verify_told c.args.names.now in
    λ rig. subst (CameToRefusal (verify_form names) _ _ rig rig) (sym c.refusal_of.ensures)
    (fault_told names _ _ rig c.read_files.ensures.kept f.board (texts_of f.scripts.items) f.journal.items read.read read.cheap read.plain
    c.in-Err.fault
    (subst (λ (t : List ℕ). (c.in-Err.fault ≡ fault.Memory) ⊎ IsFaultIn (checked_on f.board (texts_of f.scripts.items)) t c.in-Err.fault)
    c.as_slice.ensures.value c.in-Err.ensures.fault))

use Rattle.std.proofs.Common.{◌∙◌, arith}
use Rattle.std.proofs.lemmas.Grind.{common_steps}
use Rattle.smb_pec.proofs.TableLemmas.{code_more}
use Rattle.smb_pec.proofs.error_code.pec.Goals as goal

pub loop-byte-preserved : goal.loop-byte-preserved
loop-byte-preserved c =
    let byte = c.type_inv.bytes c.loop-byte.byte-index in
    c.pec_with-code.ensures
    ∙ code_more c.args.bytes.now c.loop-byte.byte-index c.loop-byte.code c.loop-byte-test.true (omega (arith, byte)) c.loop-byte.invariant

pub loop-byte-init : goal.loop-byte-init
loop-byte-init c = grind (arith, common_steps)

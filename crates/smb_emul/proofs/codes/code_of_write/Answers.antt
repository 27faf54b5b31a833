use Rattle.smb_emul.proofs.CodeLemmas.{pec-write}
use Rattle.smb_emul.proofs.codes.code_of_write.Goals as goal

pub returns : goal.returns
returns c =
    pec-write c.args.addr c.args.write.now.head c.args.write.now.block.now c.get.result c.as_slice.result.now _ _ _
    c.get.ensures.value c.as_slice.ensures.value c.code_behind-code.ensures c.code_behind-code-2.ensures c.code_behind.ensures

use Rattle.smb_emul.specs.Calls.{call_row, write_on_wire}
use Rattle.smb_emul.proofs.CodeLemmas.{pec-read}
use Rattle.smb_emul.proofs.values.wanted_code.Goals as goal

pub returns : goal.returns
returns c =
    pec-read c.args.call.now.addr (write_on_wire c.args.call.now.addr (call_row c.args.call.now.op).write) c.args.held.now c.get.result _ _
    _
    c.get.ensures.value c.code_written.ensures c.code_behind-code.ensures c.code_behind.ensures

use Rattle.tools.proofs.Cited.{sym, ap, subst, ◌∙◌, Fits, reply_by, TransferView, messages_of_call}
use Rattle.tools.specs.Calls.{calls, smb_op}
use Rattle.tools.proofs.CallLemmas.{first_fits, same_messages}
use Rattle.tools.proofs.run.call.HeldCall.print.Goals as goal

pub push_call-requires-clause-fits : goal.push_call-requires-clause-fits
push_call-requires-clause-fits c =
    let h = c.args.self.now in
    let r = reply_by c.in-Some.head c.in-Some.bytes.now in
    subst (λ (t : TransferView). Fits t r)
    (sym (ap messages_of_call c.call-call.ensures ∙ same_messages h.to c.lend-op.result (smb_op h.op) c.lend-op.ensures.same))
    (first_fits (calls h) c.args.replies r c.requires.fit (sym c.in-Some.ensures))

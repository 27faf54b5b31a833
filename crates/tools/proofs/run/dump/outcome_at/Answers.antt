use Rattle.tools.proofs.Cited.{◌≡◌, Some, sym, ap, subst, ◌∙◌, slice_get, Fits, reply_by, messages_of_call, SmbCall, SmbOp, call_to}
use Rattle.tools.proofs.Cited.{dump_call, Callee}
use Rattle.i2c_base.specs.declared.reply.Reply.TheVariants.{Read}
use Rattle.tools.proofs.DumpLemmas.{place_fits}
use Rattle.tools.proofs.run.dump.outcome_at.Goals as goal

pub value_read-requires-clause-reply : goal.value_read-requires-clause-reply
value_read-requires-clause-reply c =
    let d = c.args.dump.now in
    let to : Callee = record { bus = d.bus; addr = d.addr; force = d.force; pec = d.pec } in
    let same : c.call-call.result ≡ dump_call d c.args.place =
    c.call-call.ensures ∙ ap (λ (t : Callee). call_to t c.op_at-op.result) c.callee.ensures
    ∙ ap (λ (o : SmbOp). call_to to o) c.op_at-op.ensures.value in
    let got : slice_get c.args.replies.now c.args.place ≡ Some (reply_by c.in_ok-head.head c.in_ok-head.bytes.now) =
    ap (slice_get c.args.replies.now) (sym c.from.ensures) ∙ sym c.in_ok-head.ensures in
    let fits : Fits (messages_of_call (dump_call d c.args.place)) (reply_by c.in_ok-head.head c.in_ok-head.bytes.now) =
    place_fits d c.args.replies.now c.args.place (reply_by c.in_ok-head.head c.in_ok-head.bytes.now) c.requires.fit got in
    subst (λ (k : SmbCall). Fits (messages_of_call k) (Read c.in_ok-head.bytes.now)) (sym same) (rw c.in-Read.is at fits)

use Rattle.mux_plan.proofs.Cited.{length, sym, ◌∙◌, ap, TransferView, messages_of, length-messages}
use Rattle.mux_plan.proofs.route.Route.set_transfer.Goals as goal

pub invariant_of-self : goal.invariant_of-self
invariant_of-self c =
    let t = c.args.transfer.now in
    ap length c.msgs.ensures.value ∙ sym (length-messages t.msgs t.out)
    ∙ ap (λ (x : TransferView). length (messages_of x)) (sym c.of-2.ensures)

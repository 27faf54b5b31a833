use Rattle.caller_core.proofs.Cited.{◌∙◌, ℕ, ◌≡◌, subst, sym, true, slice_set, AreMarked}
use Rattle.std.proofs.Common.{◌==◌}
use Rattle.caller_core.proofs.ReachLemmas.{one_mark, marks_on, one_addr}
use Rattle.caller_core.proofs.reach.Reach.force_all.Goals as goal

pub loop-message-preserved : goal.loop-message-preserved
loop-message-preserved c =
    let marks = c.loop-message.invariant in
    let messages = c.args.messages.now in
    let at = c.loop-message.message-index in
    let addr = c.message-item.result.addr in
    let is : c.from.result ≡ addr = c.from.ensures ∙ c.get.ensures.value in
    let one : AreMarked (λ i. addr == i) c.loop-message.self.forced (slice_set c.loop-message.self.forced c.from.result true) =
    subst (λ (n : ℕ). AreMarked (λ i. addr == i) c.loop-message.self.forced (slice_set c.loop-message.self.forced n true)) (sym is)
    (one_mark addr c.loop-message.self.forced) in
    record {
      forced = marks_on _ _ _ _ _ _ marks.forced one (one_addr messages at c.message-item.result c.loop-message-test.true
          c.message-item.is);
      written = marks.written;
    }

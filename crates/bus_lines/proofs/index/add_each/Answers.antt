use Rattle.bus_lines.proofs.Cited.{◌≡◌, ◌==◌, ap, ◌∙◌, length-set, length, get_or, [], refl, arith, Bit, NodeState, lists_of}
use Rattle.bus_lines.proofs.IndexLemmas.{number_put, number_left}
use Rattle.bus_lines.proofs.index.add_each.Goals as goal
use Rattle.bus_lines.proofs.index.add_each.Goals.{then-addr-len+in_ok-push, else-addr-len}

pub loop-number-preserved : goal.loop-number-preserved
loop-number-preserved c =
    let bs = c.args.targets.now in
    let i = c.loop-number.number in
    let b = c.index-targets-number.result in
    let j = c.from-addr.result in
    let was = c.loop-number.invariant in
    let addr : j ≡ b.site.addr = c.from-addr.ensures ∙ ap (λ (x : Bit NodeState). x.site.addr) c.target.view_is in
    elim c.if-addr-len.branch [
      | then-addr-len+in_ok-push w ↦ record {
        all = ap (λ v. length v.items) w.at-is ∙ length-set c.loop-number.at.items j w.push.new.self ∙ was.all;
        listed = λ a low. ap (λ v. get_or (lists_of v.items) a []) w.at-is
            ∙ number_put c.loop-number.at.items bs i j b w.index_mut.result.now w.push.new.self
            (omega (arith, w.if-addr-len.true, c.len.ensures)) addr c.loop-number-test.true c.index-targets-number.is
            w.index_mut.ensures.value w.in_ok-push.ensures.items a (was.listed a low) (a == j) refl;
      }
      | else-addr-len w ↦ record {
        all = ap (λ v. length v.items) w.at-is ∙ was.all;
        listed = λ a low. ap (λ v. get_or (lists_of v.items) a []) w.at-is ∙ was.listed a low
            ∙ number_left bs i b a (omega (arith, w.if-addr-len.false, c.len.ensures, was.all, addr)) c.loop-number-test.true
            c.index-targets-number.is low;
      }
    ]

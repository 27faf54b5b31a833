use Rattle.tools.proofs.Cited.{◌≡◌, ◌+◌, ◌∙◌, ap, drop, true, false, sym, ◌||◌, list_any, reply_by, Reply, is_no_bus}
use Rattle.tools.proofs.ScanLemmas.{any_none, any_some}
use Rattle.tools.proofs.run.scan.any_absent.Goals as goal

pub returns-then-is_absent : goal.returns-then-is_absent
returns-then-is_absent c =
    let rs = c.args.replies.now in
    let k = c.loop-place.place in
    let r : Reply = reply_by c.in-Some.head c.in-Some.field-0-1.now in
    let is : is_no_bus r ≡ true = cc (c.is_absent.ensures c.in-Some.field-0-1.now, c.if-is_absent.true) in
    sym (sym c.loop-place.invariant ∙ any_some is_no_bus rs k r (sym c.in-Some.ensures)
    ∙ ap (λ b. b || list_any is_no_bus (drop (k + 1) rs)) is)

pub returns-in-None : goal.returns-in-None
returns-in-None c =
    sym (sym c.loop-place.invariant ∙ any_none is_no_bus c.args.replies.now c.loop-place.place (sym c.in-None.ensures))

pub loop-place-preserved : goal.loop-place-preserved
loop-place-preserved c =
    let rs = c.args.replies.now in
    let k = c.loop-place.place in
    let r : Reply = reply_by c.in-Some.head c.in-Some.field-0-1.now in
    let is : is_no_bus r ≡ false = cc (c.is_absent.ensures c.in-Some.field-0-1.now, c.if-is_absent.false) in
    sym (any_some is_no_bus rs k r (sym c.in-Some.ensures) ∙ ap (λ b. b || list_any is_no_bus (drop (k + 1) rs)) is)
    ∙ c.loop-place.invariant

use Rattle.reg_cache.proofs.Cited.{◌∙◌, sym, ap, Bool, ◌==◌, ◌||◌, drop, ◌+◌, slice_get-get_or, another_writes}
use Rattle.reg_cache.proofs.ReachLemmas.{one-writes, none-writes, counts, counts-own, counts-not}
use Rattle.reg_cache.proofs.devices.another_writes.Goals.{else-writes-via-then-writes+else-number-from, else-writes-via-else-writes}
use Rattle.reg_cache.proofs.devices.another_writes.Goals as goal

pub returns-then-number-from : goal.returns-then-number-from
returns-then-number-from c b texts v are there =
    ap (λ (z : Bool). z || another_writes b v.bus v.addr c.args.caller (c.loop-number.number + 1) (drop (c.loop-number.number + 1) texts))
    (sym (counts c.loop-number.number c.args.caller c.from.result c.writes.result c.from.ensures c.if-number-from.true c.if-writes.true))
    ∙ sym (one-writes b texts c.args.reaches.now are c.loop-number.number _
    (slice_get-get_or c.args.reaches.now c.loop-number.number _ c.loop-number-test.true) c.args.device v c.args.caller c.writes.result there
    c.writes.ensures)
    ∙ c.loop-number.invariant b texts v are there

pub loop-number-preserved : goal.loop-number-preserved
loop-number-preserved c b texts v are there =
    ap (λ (z : Bool). z || another_writes b v.bus v.addr c.args.caller (c.loop-number.number + 1) (drop (c.loop-number.number + 1) texts))
    (sym (elim c.else-writes.branch [
      | else-writes-via-then-writes+else-number-from w ↦
          counts-own c.loop-number.number c.args.caller w.from.result c.writes.result w.from.ensures w.if-number-from.false
      | else-writes-via-else-writes w ↦ counts-not (c.loop-number.number == c.args.caller) c.writes.result w.if-writes.false
    ]))
    ∙ sym (one-writes b texts c.args.reaches.now are c.loop-number.number _
    (slice_get-get_or c.args.reaches.now c.loop-number.number _ c.loop-number-test.true) c.args.device v c.args.caller c.writes.result there
    c.writes.ensures)
    ∙ c.loop-number.invariant b texts v are there

pub returns : goal.returns
returns c b texts v are there =
    none-writes b texts c.args.reaches.now are c.loop-number.number v.bus v.addr c.args.caller c.loop-number-test.false
    ∙ c.loop-number.invariant b texts v are there

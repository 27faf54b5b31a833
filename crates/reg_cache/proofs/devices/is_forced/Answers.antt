use Rattle.reg_cache.proofs.Cited.{◌∙◌, sym, ap, Bool, ◌||◌, drop, ◌+◌, list_any, slice_get-get_or, is_forced_in}
use Rattle.reg_cache.proofs.ReachLemmas.{one-forced, none-forced}
use Rattle.reg_cache.proofs.devices.is_forced.Goals as goal

pub returns-then-forces : goal.returns-then-forces
returns-then-forces c b texts are =
    ap (λ (z : Bool). z || list_any (is_forced_in b c.args.addr) (drop (c.loop-reach.reach-index + 1) texts)) (sym c.if-forces.true)
    ∙ sym (one-forced b texts c.args.reaches.now are c.loop-reach.reach-index _
    (slice_get-get_or c.args.reaches.now c.loop-reach.reach-index _ c.loop-reach-test.true) c.args.addr c.forces.result c.forces.ensures)
    ∙ c.loop-reach.invariant b texts are

pub loop-reach-preserved : goal.loop-reach-preserved
loop-reach-preserved c b texts are =
    ap (λ (z : Bool). z || list_any (is_forced_in b c.args.addr) (drop (c.loop-reach.reach-index + 1) texts)) (sym c.if-forces.false)
    ∙ sym (one-forced b texts c.args.reaches.now are c.loop-reach.reach-index _
    (slice_get-get_or c.args.reaches.now c.loop-reach.reach-index _ c.loop-reach-test.true) c.args.addr c.forces.result c.forces.ensures)
    ∙ c.loop-reach.invariant b texts are

pub returns : goal.returns
returns c b texts are =
    none-forced b texts c.args.reaches.now are c.loop-reach.reach-index c.args.addr c.loop-reach-test.false
    ∙ c.loop-reach.invariant b texts are

use Rattle.i2c_top.proofs.Cited.{◌≡◌, [], ◌∷◌, ◌++◌, ◌∙◌, ap, arith, length-enumerate_from}
use Rattle.i2c_top.proofs.Numbering.{next-holds, number-below, over-numbered, room-next}
use Rattle.i2c_top.proofs.callers.by_root.Goals as goal

pub overflow_cast-number : goal.overflow_cast-number
overflow_cast-number g c =
    let low = number-below c.loop-port.invariant c.in-Some.ensures.steps.0 (length-enumerate_from 0 c.loop-port.yielded)
    c.len-number.ensures c.loop-port.by_root.ok.0 in
    let count = c.requires.count in
    let few = c.requires.few in
    omega (arith, low, count, few)

pub new-requires-after_bounds : goal.new-requires-after_bounds
new-requires-after_bounds g c κs within tell =
    next-holds c.loop-port.invariant c.in-Some.ensures.steps.0 (λ p. g.P.Port.log p ≡ []) (c.requires.empty tell)

pub push_reserved-requires : goal.push_reserved-requires
push_reserved-requires g c =
    room-next c.loop-port.invariant c.in-Some.ensures.steps.0 (length-enumerate_from 0 c.loop-port.yielded) c.loop-port.by_root.ok.0

pub loop-port-preserved : goal.loop-port-preserved
loop-port-preserved g c =
    over-numbered c.len-number.result c.loop-port.invariant c.in-Some.ensures.steps.0 c.in-Some.ensures.steps.1
    (c.push_reserved.ensures.items ∙ ap (λ (p : _). c.loop-port.by_root.items ++ (c.len-number.result, p) ∷ []) c.new.ensures)
    c.push_reserved.ensures.capacity c.len-number.ensures c.loop-port.by_root.ok.0

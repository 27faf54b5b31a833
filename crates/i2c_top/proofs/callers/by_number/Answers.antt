use Rattle.i2c_top.proofs.Cited.{arith, length-enumerate_from}
use Rattle.i2c_top.proofs.Numbering.{number-below, over-numbered, room-next}
use Rattle.i2c_top.proofs.callers.by_number.Goals as goal

pub overflow_cast-number : goal.overflow_cast-number
overflow_cast-number g c =
    let low = number-below c.loop-caller.invariant c.in-Some.ensures.steps.0 (length-enumerate_from 0 c.loop-caller.yielded)
    c.len-number.ensures c.loop-caller.by_number.ok.0 in
    let few = c.requires in
    omega (arith, low, few)

pub push_reserved-requires : goal.push_reserved-requires
push_reserved-requires g c =
    room-next c.loop-caller.invariant c.in-Some.ensures.steps.0 (length-enumerate_from 0 c.loop-caller.yielded)
    c.loop-caller.by_number.ok.0

pub loop-caller-preserved : goal.loop-caller-preserved
loop-caller-preserved g c =
    over-numbered c.len-number.result c.loop-caller.invariant c.in-Some.ensures.steps.0 c.in-Some.ensures.steps.1
    c.push_reserved.ensures.items c.push_reserved.ensures.capacity c.len-number.ensures c.loop-caller.by_number.ok.0

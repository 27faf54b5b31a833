use Rattle.bus_message.proofs.Cited.{refl, true, ap, arith, length, length-append, common_steps, PortCall, ending, over_limit}
use Rattle.i2c_base.specs.declared.entry.End.TheVariants as end
use Rattle.bus_message.proofs.EndLemmas.{fault-ends, rest-ends}
use Rattle.bus_message.proofs.MessageLemmas.{over_went, over_failed}
use Rattle.bus_message.proofs.TalkLemmas.{cut_after}
use Rattle.bus_message.proofs.message.get_one_more.Goals as goal

pub returns-in-Err-clause-ended : goal.returns-in-Err-clause-ended
returns-in-Err-clause-ended g c =
    fault-ends g.P.Port true over_limit 2 1 c.args.got.now c.args.port.now c.args.port.now c.get.new.self c.args.got.now
    (λ tells. omega arith) (omega arith) refl 2 (omega arith) (omega arith) (omega arith) c.in-Err.ensures.failed
    c.in-Err.ensures.log_failed c.in-Err.ensures.later c.in-Err.ensures.setup c.in-Err.ensures.cause
    (λ tells whole before r. over_failed whole before 2 c.args.got.now _ _ _ _ (c.in-Err.ensures.world_failed tells)
    (c.in-Err.ensures.log_failed tells) r)

pub returns-in-Err-clause-bad : goal.returns-in-Err-clause-bad
returns-in-Err-clause-bad g c = grind (arith, common_steps)

pub returns-in-Ok-clause-ended : goal.returns-in-Ok-clause-ended
returns-in-Ok-clause-ended g c =
    rest-ends g.P.Port true over_limit 2 1 c.args.got.now c.args.port.now c.get.new.self c.stopped.new.port c.push.new.self
    (λ tells. omega (arith, ap length (c.in-Ok.ensures.log tells), length-append {A = PortCall})) c.in-Ok.ensures.later c.in-Ok.ensures.setup
    true (ending true end.Proto) 3 0 c.push.new.self c.stopped.result (c.stopped.ensures.ended c.push.new.self)
    (λ no. no) (omega arith) (omega arith) (grind (arith, common_steps))
    (λ tells. omega (arith, ap length (c.in-Ok.ensures.log tells), length-append {A = PortCall}))
    (λ tells whole before r.
    rw c.push.ensures (over_went whole _ c.in-Ok.byte before 2 c.args.got.now _ _ _ _ (c.in-Ok.ensures.answer tells)
    (cut_after c.stopped.result 3 (λ q e. ((c.stopped.ensures.ended c.push.new.self).fails.place q e).0))
    (c.in-Ok.ensures.world tells) (c.in-Ok.ensures.log tells) r))

pub returns-in-Ok-clause-bad : goal.returns-in-Ok-clause-bad
returns-in-Ok-clause-bad g c = grind (arith, common_steps)

pub stopped-requires : goal.stopped-requires
stopped-requires g c = grind (arith, common_steps)

pub get-requires-clause-phase : goal.get-requires-clause-phase
get-requires-clause-phase g c = grind (arith, common_steps)

pub get-requires-clause-room : goal.get-requires-clause-room
get-requires-clause-room g c = grind (arith, common_steps)

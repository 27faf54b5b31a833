use Rattle.bus_message.proofs.Cited.{refl, true, arith, inl, common_steps, ending}
use Rattle.bus_message.proofs.EndLemmas.{fault-ends, idle_starts}
use Rattle.bus_message.proofs.message.stopped.Goals as goal

pub returns-in-Err-clause-ended : goal.returns-in-Err-clause-ended
returns-in-Err-clause-ended g c got =
    fault-ends g.P.Port true (ending true c.args.end) c.args.calls 0 got c.args.port.now c.args.port.now c.stop.new.self got
    (λ tells. omega arith) (omega arith) refl c.args.calls (omega arith) (omega arith) (omega arith) c.stop.ensures.phase
    c.in-Err.ensures.log_failed c.in-Err.ensures.later c.in-Err.ensures.setup c.in-Err.ensures.cause
    (grind (arith, common_steps))

pub returns-in-Ok-clause-ended : goal.returns-in-Ok-clause-ended
returns-in-Ok-clause-ended g c got =
    record {
      start = idle_starts _ c.stop.ensures.phase;
      idle = inl c.stop.ensures.phase;
      grows = grind (arith, common_steps);
      later = c.stop.ensures.later;
      setup = c.stop.ensures.setup;
      few = omega arith;
      fails = record { place = grind (arith, common_steps); cause = grind (arith, common_steps) };
      told = grind (arith, common_steps);
    }

use Rattle.bus_message.proofs.Cited.{◌≡◌, ◌+◌, ◌-◌, Some, ◌∙◌, ap, arith, rules, length, length-append, common_steps, count_of, PortCall}
use Rattle.bus_message.proofs.Cited.{ending, getting}
use Rattle.i2c_base.specs.declared.entry.End.TheVariants as end
use Rattle.bus_message.proofs.EndLemmas.{fault-ends, rest-ends}
use Rattle.bus_message.proofs.MessageLemmas.{get_failed, get_went, get_done, acknowledges, count_stays}
use Rattle.bus_message.proofs.TalkLemmas.{cut_after}
use Rattle.bus_message.proofs.message.get_all.Goals as goal

pub returns-in-Err : goal.returns-in-Err
returns-in-Err g c = record {
  ended =
      fault-ends g.P.Port c.args.last
      (getting c.args.last c.args.len) c.args.calls c.args.len c.args.got.now c.args.port.now c.loop-count.port c.get.new.self
      c.loop-count.got
      (λ tells. omega (arith, c.loop-count.invariant.log tells, c.loop-count-test.true)) c.loop-count.invariant.later c.loop-count.invariant.setup
      (c.args.calls + c.loop-count.count)
      (omega arith) (omega (arith, c.loop-count-test.true))
      (omega (arith, c.loop-count.invariant.got, c.loop-count-test.true)) c.in-Err.ensures.failed
      c.in-Err.ensures.log_failed c.in-Err.ensures.later c.in-Err.ensures.setup c.in-Err.ensures.cause
      (λ tells whole before r.
      get_failed whole c.args.last (c.args.len - c.loop-count.count) (c.args.len - (c.loop-count.count + 1)) before
      (c.args.calls + c.loop-count.count) c.loop-count.got _ _ _ _
      (omega (arith, c.loop-count-test.true)) (c.in-Err.ensures.world_failed tells) (c.in-Err.ensures.log_failed tells)
      (c.loop-count.invariant.said tells (Some (c.args.calls + c.loop-count.count)) (λ k e. search (rules, e)) whole before r));
  whole = grind (arith, common_steps);
  first = grind (arith, common_steps);
}

pub loop-count-preserved : goal.loop-count-preserved
loop-count-preserved g c = record {
  phase = search rules;
  got = grind (arith, common_steps);
  first = λ some. ap count_of c.push.ensures ∙ count_stays c.loop-count.got _ (omega (arith, some, c.loop-count.invariant.got))
      ∙ c.loop-count.invariant.first some;
  log = λ tells. omega (arith, ap length (c.in-Ok.ensures.log tells), c.loop-count.invariant.log tells, length-append {A = PortCall});
  later = search rules;
  setup = search rules;
  said = λ tells cut behind whole before r.
      let one : c.args.calls + (c.loop-count.count + 1) ≡ c.args.calls + c.loop-count.count + 1 = omega arith in
      rw (c.push.ensures, one) (get_went whole cut c.args.last (c.args.len - c.loop-count.count)
      (c.args.len - (c.loop-count.count + 1)) _ _ before
      (c.args.calls + c.loop-count.count) c.loop-count.got _ _ _ _
      (omega (arith, c.loop-count-test.true)) (acknowledges c.loop-count.count c.args.len) (c.in-Ok.ensures.answer tells)
      (λ k e. let h = behind k e in omega (arith, h))
      (c.in-Ok.ensures.world tells) (c.in-Ok.ensures.log tells)
      (c.loop-count.invariant.said tells cut (λ k e. let h = behind k e in omega arith) whole before r));
}

pub returns : goal.returns
returns g c = record {
  ended =
      rest-ends g.P.Port c.args.last
      (getting c.args.last c.args.len) c.args.calls c.args.len c.args.got.now c.args.port.now c.loop-count.port c.through.new.port
      c.loop-count.got
      (λ tells. grind (arith, common_steps)) c.loop-count.invariant.later c.loop-count.invariant.setup
      c.args.last (ending c.args.last end.Ok) _ 0 c.loop-count.got c.through.result (c.through.ensures c.loop-count.got)
      (λ more. more) (grind (arith, common_steps)) (grind (arith, common_steps)) (grind (arith, common_steps))
      (λ tells. grind (arith, common_steps))
      (λ tells whole before r.
      get_done whole _ c.args.last (c.args.len - c.loop-count.count) before (c.args.calls + c.loop-count.count) _ c.loop-count.got _ _
      (omega (arith, c.loop-count-test.false)) (omega arith)
      (c.loop-count.invariant.said tells _
      (cut_after c.through.result (c.args.calls + c.loop-count.count)
      (λ q e. let at = ((c.through.ensures c.loop-count.got).fails.place q e).0 in omega (arith, at))) whole before r));
  whole = grind (arith, common_steps);
  first = grind (arith, common_steps);
}

pub get-requires : goal.get-requires
get-requires g c = record {
  phase = grind (arith, common_steps);
  room = grind (arith, common_steps);
}

pub through-requires : goal.through-requires
through-requires g c = grind (arith, common_steps)

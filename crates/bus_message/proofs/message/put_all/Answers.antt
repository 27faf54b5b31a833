use Rattle.bus_message.proofs.Cited.{◌≡◌, false, true, ◌+◌, Some, [], refl, sym, ap, ◌∙◌, arith, rules, length, length-append, common_steps}
use Rattle.bus_message.proofs.Cited.{PortCall, ending, putting}
use Rattle.i2c_base.specs.declared.entry.End.TheVariants as end
use Rattle.bus_message.proofs.EndLemmas.{fault-ends, rest-ends}
use Rattle.bus_message.proofs.MessageLemmas.{put_failed, put_refused, put_taken, put_done}
use Rattle.bus_message.proofs.TalkLemmas.{cut_after}
use Rattle.bus_message.proofs.message.put_all.Goals as goal

pub returns-in-Err : goal.returns-in-Err
returns-in-Err g c = record {
  ended =
      fault-ends g.P.Port c.args.last (putting c.args.last c.args.bytes.now) 1
      (length c.args.bytes.now) [] c.args.port.now c.loop-byte.port c.put.new.self c.loop-byte.sent
      (λ tells. omega (arith, c.loop-byte.invariant.log tells, c.loop-byte-test.true)) c.loop-byte.invariant.later c.loop-byte.invariant.setup c.loop-byte.calls
      (grind (arith, common_steps)) (grind (arith, common_steps)) (grind (arith, common_steps)) c.in-Err.ensures.failed
      c.in-Err.ensures.log_failed c.in-Err.ensures.later c.in-Err.ensures.setup c.in-Err.ensures.cause
      (λ tells whole before r.
      put_failed whole c.args.last c.args.bytes.now c.loop-byte.byte-index _ before c.loop-byte.calls c.loop-byte.sent _ _ _ _
      c.loop-byte-test.true refl (c.in-Err.ensures.world_failed tells) (c.in-Err.ensures.log_failed tells)
      (c.loop-byte.invariant.said tells (Some c.loop-byte.calls) (λ k e. search (rules, e)) whole before r));
  whole = grind (arith, common_steps);
}

pub stopped-requires : goal.stopped-requires
stopped-requires g c = grind (arith, common_steps)

pub returns-in-Ok-false : goal.returns-in-Ok-false
returns-in-Ok-false g c = record {
  ended =
      rest-ends g.P.Port c.args.last (putting c.args.last c.args.bytes.now) 1
      (length c.args.bytes.now) [] c.args.port.now c.put.new.self c.stopped.new.port c.loop-byte.sent
      (λ tells. omega (
        arith,
        c.loop-byte.invariant.log tells,
        c.loop-byte-test.true,
        ap length
            (c.in-Ok-false.ensures.log tells),
        length-append {A = PortCall},
      ))
      (omega (arith, c.loop-byte.invariant.later, c.in-Ok-false.ensures.later)) (c.in-Ok-false.ensures.setup ∙ c.loop-byte.invariant.setup)
      true (ending true end.Refused) (c.loop-byte.calls + 1) 0 c.loop-byte.sent c.stopped.result (c.stopped.ensures.ended c.loop-byte.sent)
      (λ no. absurd (let f : true ≡ false = no in cc)) (omega (arith, c.loop-byte.invariant.calls))
      (omega (arith, c.loop-byte.invariant.calls, c.loop-byte-test.true)) (grind (arith, common_steps))
      (λ tells. omega (
        arith,
        c.loop-byte.invariant.log tells,
        c.loop-byte-test.true,
        ap length
            (c.in-Ok-false.ensures.log tells),
        length-append {A = PortCall},
      ))
      (λ tells whole before r.
      put_refused whole _ c.args.last c.args.bytes.now c.loop-byte.byte-index _ before c.loop-byte.calls c.loop-byte.sent _ _ _ _
      c.loop-byte-test.true refl (sym c.in-Ok-false.field-0-test ∙ c.in-Ok-false.ensures.answer tells)
      (cut_after c.stopped.result (c.loop-byte.calls + 1) (λ q e. ((c.stopped.ensures.ended c.loop-byte.sent).fails.place q e).0))
      (c.in-Ok-false.ensures.world tells) (c.in-Ok-false.ensures.log tells)
      (c.loop-byte.invariant.said tells _
      (cut_after c.stopped.result c.loop-byte.calls (λ q e. let at = ((c.stopped.ensures.ended c.loop-byte.sent).fails.place q e).0 in
      omega (arith, at))) whole before r));
  whole = grind (arith, common_steps);
}

pub loop-byte-preserved : goal.loop-byte-preserved
loop-byte-preserved g c = record {
  phase = search rules;
  calls = search rules;
  sent = grind (arith, common_steps);
  log = λ tells. omega (arith, ap length (c.in-Ok-true.ensures.log tells), c.loop-byte.invariant.log tells, length-append {A = PortCall});
  later = search rules;
  setup = search rules;
  said = λ tells cut behind whole before r.
      rw c.push.ensures (put_taken whole cut c.args.last c.args.bytes.now c.loop-byte.byte-index _ before c.loop-byte.calls c.loop-byte.sent
      _ _ _ _
      c.loop-byte-test.true refl (sym c.in-Ok-true.field-0-test ∙ c.in-Ok-true.ensures.answer tells)
      behind
      (c.in-Ok-true.ensures.world tells) (c.in-Ok-true.ensures.log tells)
      (c.loop-byte.invariant.said tells cut (λ k e. let h = behind k e in omega arith) whole before r));
}

pub returns : goal.returns
returns g c = record {
  ended =
      rest-ends g.P.Port c.args.last (putting c.args.last c.args.bytes.now) 1
      (length c.args.bytes.now) [] c.args.port.now c.loop-byte.port c.through.new.port c.loop-byte.sent
      (λ tells. grind (arith, common_steps)) c.loop-byte.invariant.later c.loop-byte.invariant.setup
      c.args.last (ending c.args.last end.Ok) c.loop-byte.calls 0 c.loop-byte.sent c.through.result (c.through.ensures c.loop-byte.sent)
      (λ more. more) (grind (arith, common_steps)) (grind (arith, common_steps)) (grind (arith, common_steps))
      (λ tells. grind (arith, common_steps))
      (λ tells whole before r.
      put_done whole _ c.args.last c.args.bytes.now c.loop-byte.byte-index before c.loop-byte.calls c.loop-byte.sent _ _
      c.loop-byte-test.false
      (c.loop-byte.invariant.said tells _
      (cut_after c.through.result c.loop-byte.calls (λ q e. ((c.through.ensures c.loop-byte.sent).fails.place q e).0)) whole before r));
  whole = grind (arith, common_steps);
}

pub put-requires : goal.put-requires
put-requires g c = record {
  phase = grind (arith, common_steps);
  room = grind (arith, common_steps);
}

pub through-requires : goal.through-requires
through-requires g c = grind (arith, common_steps)

use Rattle.bus_message.proofs.Cited.{refl, ◌≡◌, true, false, [], arith, common_steps, bytes_most, ending, moving}
use Rattle.i2c_base.specs.declared.entry.End.TheVariants as end
use Rattle.bus_message.specs.Talks.{answered}
use Rattle.bus_message.proofs.EndLemmas.{rest-ends}
use Rattle.bus_message.proofs.MessageLemmas.{begins_data, begins_slow, begins_unheard}
use Rattle.bus_message.proofs.message.after_start.Goals as goal

pub returns-in-Ack : goal.returns-in-Ack
returns-in-Ack g c =
    let m = c.args.message.now in
    record {
      ended = rest-ends g.P.Port c.args.last (answered c.args.last c.args.limit m c.args.answer) 1
          (bytes_most c.args.limit m) [] c.args.port.now c.args.port.now c.move_data.new.port c.move_data.new.bytes
          (λ tells. omega arith) (omega arith) refl
          c.args.last (moving c.args.last c.args.limit m) 1 (bytes_most c.args.limit m) [] c.move_data.result c.move_data.ensures.ended
          (λ more. more) (omega arith) (omega arith) (omega arith) (λ tells. omega arith)
          (λ tells whole before r. begins_data whole _ c.args.last c.args.limit m c.args.answer before _ _ _ _ c.in-Ack.is r);
      moved = c.move_data.ensures.moved;
    }

pub returns-in-Slow : goal.returns-in-Slow
returns-in-Slow g c =
    let m = c.args.message.now in
    record {
      ended = rest-ends g.P.Port c.args.last (answered c.args.last c.args.limit m c.args.answer) 1
          (bytes_most c.args.limit m) [] c.args.port.now c.args.port.now c.stopped.new.port c.args.bytes.now
          (λ tells. omega arith) (omega arith) refl
          true (ending true end.Slow) 1 0 c.args.bytes.now c.stopped.result (c.stopped.ensures.ended c.args.bytes.now)
          (λ no. absurd (let f : true ≡ false = no in cc)) (omega arith) (omega arith) (rw c.requires.started.none (omega arith))
          (λ tells. omega arith)
          (λ tells whole before r. begins_slow whole _ c.args.last c.args.limit m c.args.answer before _ _ _ _ _ c.in-Slow.is
          c.requires.started.none r);
      moved = record { read = grind (arith, common_steps); written = grind (arith, common_steps) };
    }

pub returns-in_default : goal.returns-in_default
returns-in_default g c =
    let m = c.args.message.now in
    record {
      ended = rest-ends g.P.Port c.args.last (answered c.args.last c.args.limit m c.args.answer) 1
          (bytes_most c.args.limit m) [] c.args.port.now c.args.port.now c.stopped-in_default.new.port c.args.bytes.now
          (λ tells. omega arith) (omega arith) refl
          true (ending true end.Nack) 1 0 c.args.bytes.now c.stopped-in_default.result (c.stopped-in_default.ensures.ended c.args.bytes.now)
          (λ no. absurd (let f : true ≡ false = no in cc)) (omega arith) (omega arith) (rw c.requires.started.none (omega arith))
          (λ tells. omega arith)
          (λ tells whole before r. begins_unheard whole _ c.args.last c.args.limit m c.args.answer before _ _ _ _ _ c.in_default.not-Ack
          c.in_default.not-Slow c.requires.started.none r);
      moved = record {
        read = λ good. absurd (let h = c.stopped-in_default.ensures.good good in cc);
        written = λ good. absurd (let h = c.stopped-in_default.ensures.good good in cc);
      };
    }

pub move_data-requires : goal.move_data-requires
move_data-requires g c = grind (arith, common_steps)

pub stopped-requires : goal.stopped-requires
stopped-requires g c = grind (arith, common_steps)

pub stopped-requires-in_default : goal.stopped-requires-in_default
stopped-requires-in_default g c = grind (arith, common_steps)

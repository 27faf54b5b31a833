use Rattle.bus_message.proofs.Cited.{refl, sym, ◌∙◌, ap, arith, rules, [], length, ◌+◌, common_steps, bytes_most, counting, getting, moving}
use Rattle.bus_message.proofs.Cited.{putting}
use Rattle.bus_message.proofs.EndLemmas.{rest-ends}
use Rattle.bus_message.proofs.MessageLemmas.{data_written, data_counted, data_read}
use Rattle.bus_message.proofs.message.move_data.Goals as goal

pub returns-then-not-message : goal.returns-then-not-message
returns-then-not-message g c =
    let m = c.args.message.now in
    record {
      ended = rest-ends g.P.Port c.args.last (moving c.args.last c.args.limit m) 1
          (bytes_most c.args.limit m) [] c.args.port.now c.args.port.now c.put_all.new.port c.put_all.new.sent
          (λ tells. omega arith) (omega arith) refl
          c.args.last (putting c.args.last c.message.inside.bytes.now) 1
          (length c.message.inside.bytes.now) [] c.put_all.result c.put_all.ensures.ended
          (λ more. more) (omega arith) (grind (arith, common_steps)) (grind (arith, common_steps)) (λ tells. grind (arith, common_steps))
          (λ tells whole before r.
          data_written whole _ c.args.last c.args.limit m c.message.inside.bytes.now before _ _ _ _
          (search rules) (sym (ap (λ m. m.bytes) c.message.view_is)) r);
      moved = record {
        read = grind (arith, common_steps);
        written = λ good writes. c.put_all.ensures.whole good ∙ ap (λ m. m.bytes) c.message.view_is;
      };
    }

pub returns-then-message : goal.returns-then-message
returns-then-message g c =
    let m = c.args.message.now in
    record {
      ended = rest-ends g.P.Port c.args.last (moving c.args.last c.args.limit m) 1
          (bytes_most c.args.limit m) [] c.args.port.now c.args.port.now c.get_counted.new.port c.get_counted.new.got
          (λ tells. omega arith) (omega arith) refl
          c.args.last (counting c.args.last c.args.limit c.message.inside.len) 1
          (c.args.limit + c.message.inside.len) [] c.get_counted.result c.get_counted.ensures.ended
          (λ more. more) (omega arith) (grind (arith, common_steps)) (grind (arith, common_steps)) (λ tells. grind (arith, common_steps))
          (λ tells whole before r.
          data_counted whole _ c.args.last c.args.limit m c.message.inside.len before _ _ _ _
          (search rules) (sym (ap (λ m. m.counted) c.message.view_is) ∙ c.if-message.true) (sym (ap (λ m. m.len) c.message.view_is)) r);
      moved = record { read = grind (arith, common_steps); written = grind (arith, common_steps) };
    }

pub returns-else-message : goal.returns-else-message
returns-else-message g c =
    let m = c.args.message.now in
    record {
      ended = rest-ends g.P.Port c.args.last (moving c.args.last c.args.limit m) 1
          (bytes_most c.args.limit m) [] c.args.port.now c.args.port.now c.get_all.new.port c.get_all.new.got
          (λ tells. omega arith) (omega arith) refl
          c.args.last (getting c.args.last c.message.inside.len) 1 c.message.inside.len c.args.bytes.now c.get_all.result
          c.get_all.ensures.ended
          (λ more. more) (omega arith) (grind (arith, common_steps)) (grind (arith, common_steps)) (λ tells. grind (arith, common_steps))
          (λ tells whole before r.
          rw c.requires.started.none
          (data_read whole _ c.args.last c.args.limit m c.message.inside.len before _ _ _ _
          (search rules) (sym (ap (λ m. m.counted) c.message.view_is) ∙ c.if-message.false) (sym (ap (λ m. m.len) c.message.view_is)) r));
      moved = record { read = grind (arith, common_steps); written = grind (arith, common_steps) };
    }

pub put_all-requires : goal.put_all-requires
put_all-requires g c = grind (arith, common_steps)

pub get_counted-requires : goal.get_counted-requires
get_counted-requires g c = grind (arith, common_steps)

pub get_all-requires : goal.get_all-requires
get_all-requires g c = grind (arith, common_steps)

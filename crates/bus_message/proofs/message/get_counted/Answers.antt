use Rattle.bus_message.proofs.Cited.{refl, ◌≡◌, true, false, ◌+◌, ◌-◌, [], sym, ap, ◌∙◌, arith, length, length-append, common_steps, PortCall}
use Rattle.bus_message.proofs.Cited.{counting, getting, over_limit}
use Rattle.bus_message.proofs.EndLemmas.{fault-ends, rest-ends}
use Rattle.bus_message.proofs.MessageLemmas.{count_failed, count_over, count_within}
use Rattle.bus_message.proofs.TalkLemmas.{cut_after}
use Rattle.bus_message.proofs.message.get_counted.Goals as goal

pub returns-in-Err : goal.returns-in-Err
returns-in-Err g c = record {
  ended =
      fault-ends g.P.Port c.args.last (counting c.args.last c.args.limit c.args.len) 1
      (c.args.limit + c.args.len) [] c.args.port.now c.args.port.now c.get.new.self c.args.got.now
      (λ tells. omega arith) (omega arith) refl 1 (omega arith) (omega arith) (grind (arith, common_steps)) c.in-Err.ensures.failed
      c.in-Err.ensures.log_failed c.in-Err.ensures.later c.in-Err.ensures.setup c.in-Err.ensures.cause
      (λ tells whole before r.
      rw c.requires.none (count_failed whole c.args.last c.args.limit c.args.len before 1 [] _ _ _ _ (c.in-Err.ensures.world_failed tells)
      (c.in-Err.ensures.log_failed tells) r));
  whole = grind (arith, common_steps);
}

pub returns-then-is_bad_count : goal.returns-then-is_bad_count
returns-then-is_bad_count g c = record {
  ended =
      rest-ends g.P.Port c.args.last (counting c.args.last c.args.limit c.args.len) 1
      (c.args.limit + c.args.len) [] c.args.port.now c.get.new.self c.get_one_more.new.port c.get_one_more.new.got
      (λ tells. omega (arith, ap length (c.in-Ok.ensures.log tells), length-append {A = PortCall})) c.in-Ok.ensures.later c.in-Ok.ensures.setup
      true over_limit 2 1 c.push.new.self c.get_one_more.result c.get_one_more.ensures.ended
      (λ no. absurd (let f : true ≡ false = no in cc)) (omega arith) (grind (arith, common_steps)) (grind (arith, common_steps))
      (λ tells. omega (arith, ap length (c.in-Ok.ensures.log tells), length-append {A = PortCall}))
      (λ tells whole before r.
      rw (c.push.ensures, c.requires.none)
      (count_over whole _ c.args.last c.args.limit c.args.len c.in-Ok.count before 1 _ _ _ _ _ (c.in-Ok.ensures.answer tells)
      (sym c.is_bad_count.ensures.test ∙ c.if-is_bad_count.true)
      (cut_after c.get_one_more.result 2 (λ q e. (c.get_one_more.ensures.ended.fails.place q e).0))
      (c.in-Ok.ensures.world tells) (c.in-Ok.ensures.log tells) r));
  whole = grind (arith, common_steps);
}

pub returns-else-is_bad_count : goal.returns-else-is_bad_count
returns-else-is_bad_count g c = record {
  ended =
      rest-ends g.P.Port c.args.last (counting c.args.last c.args.limit c.args.len) 1
      (c.args.limit + c.args.len) [] c.args.port.now c.get.new.self c.get_all.new.port c.get_all.new.got
      (λ tells. omega (arith, ap length (c.in-Ok.ensures.log tells), length-append {A = PortCall})) c.in-Ok.ensures.later c.in-Ok.ensures.setup
      c.args.last (getting c.args.last _) 2 _ c.push.new.self c.get_all.result c.get_all.ensures.ended
      (λ more. more) (omega arith) (grind (arith, common_steps)) (grind (arith, common_steps)) (λ tells. grind (arith, common_steps))
      (λ tells whole before r.
      rw (c.push.ensures, c.requires.none)
      (count_within whole _ c.args.last c.args.limit c.args.len c.in-Ok.count _ before 1 _ _ _ _ _ (c.in-Ok.ensures.answer tells)
      (sym c.is_bad_count.ensures.test ∙ c.if-is_bad_count.false) (ap (λ n. n + c.args.len - 1) c.from.ensures)
      (cut_after c.get_all.result 2 (λ q e. (c.get_all.ensures.ended.fails.place q e).0))
      (c.in-Ok.ensures.world tells) (c.in-Ok.ensures.log tells) r));
  whole = grind (arith, common_steps);
}

pub get_one_more-requires : goal.get_one_more-requires
get_one_more-requires g c = grind (arith, common_steps)

pub get_all-requires : goal.get_all-requires
get_all-requires g c = grind (arith, common_steps)

pub get-requires : goal.get-requires
get-requires g c = record {
  phase = grind (arith, common_steps);
  room = grind (arith, common_steps);
}

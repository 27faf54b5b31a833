use Rattle.caller_core.proofs.Cited.{common_steps, arith, CommandView}
use Rattle.caller_core.proofs.RootLemmas.{command_bits, sums_none, sums_more}
use Rattle.caller_core.proofs.totals.totals_of.Goals as goal

pub loop-place-preserved : goal.loop-place-preserved
loop-place-preserved c =
    let x : CommandView = record { echo = c.get.result.1.now; run = c.get.result.0.now } in
    let more = c.totals_of_command-more in
    record {
      sums =
          sums_more _ _ _ _ _ _ _ _ _ x _ more.result c.loop-place.invariant.sums
          (omega (arith, c.loop-place-test.true, c.len-place-end.ensures)) c.get.ensures
          (record {
            cost = more.ensures.cost;
            small = more.ensures.small;
            replies = more.ensures.replies;
            few = more.ensures.few;
            bytes = more.ensures.bytes;
            few_bytes = more.ensures.few_bytes;
            roots = command_bits c.args.board.now x more.result.roots more.ensures.roots;
          });
      bill = more.ensures.bill;
    }

pub get-requires : goal.get-requires
get-requires c = grind (arith, common_steps)

pub overflow_add-totals : goal.overflow_add-totals
overflow_add-totals c = grind (arith, common_steps)

pub overflow_add-totals-in-loop-place : goal.overflow_add-totals-in-loop-place
overflow_add-totals-in-loop-place c = grind (arith, common_steps)

pub overflow_add-totals-in-loop-place-2 : goal.overflow_add-totals-in-loop-place-2
overflow_add-totals-in-loop-place-2 c = grind (arith, common_steps)

pub returns : goal.returns
returns c = record {
  cost = grind (arith, common_steps);
  small = grind (arith, common_steps);
  replies = grind (arith, common_steps);
  bytes = grind (arith, common_steps);
  roots = grind (arith, common_steps);
}

pub loop-place-init : goal.loop-place-init
loop-place-init c = record { sums = sums_none _ _ _ _ _ _ _ c.args.commands.now; bill = c.bill-bill.ensures.bill }

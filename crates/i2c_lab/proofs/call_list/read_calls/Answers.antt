use Rattle.std.proofs.Common.{rules, ◌≡◌, ap, ◌∷◌, [], length, arith}
use Rattle.std.proofs.lemmas.List.{length-append}
use Rattle.i2c_lab.proofs.ListLemmas.{calls-more}
use Rattle.i2c_lab.proofs.call_list.read_calls.Goals as goal

pub loop-rest-preserved : goal.loop-rest-preserved
loop-rest-preserved c =
    let at = c.loop-rest in
    let pushed = c.in_ok-push.ensures.items in
    let rest = c.skip_gaps-rest-in-loop-rest.ensures in
    let size : c.len.result ≡ length at.calls.items = search rules in
    record {
      begins = rest.begins;
      within = omega (
        arith,
        ap length pushed,
        length-append at.calls.items
            (c.in_ok-next_call.field-0 ∷ []),
        size,
        c.in_ok-next_call.ensures.room,
      );
      same = calls-more _ at.calls.items _ _ _ _ _ _ _ _ c.first_word.ensures.split rest.words pushed size c.in_ok-next_call.ensures.ok
          at.invariant.same;
    }

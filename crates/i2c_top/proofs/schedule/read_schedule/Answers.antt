use Rattle.i2c_top.proofs.Cited.{rules, ◌≡◌, ap, ◌∷◌, [], length, arith, length-append}
use Rattle.i2c_top.proofs.ScheduleLemmas.{below_more, callers_more}
use Rattle.i2c_top.proofs.schedule.read_schedule.Goals as goal

pub loop-rest-preserved : goal.loop-rest-preserved
loop-rest-preserved c =
    let at = c.loop-rest in
    let pushed = c.in_ok-push.ensures.items in
    let rest = c.skip_gaps-rest-in-loop-rest.ensures in
    let size : c.len.result ≡ length at.words.items = search rules in
    record {
      begins = rest.begins;
      within = omega (
        arith,
        ap length pushed,
        length-append at.words.items
            (c.in_ok-next_caller.field-0 ∷ []),
        size,
        c.in_ok-next_caller.ensures.room,
      );
      below = below_more _ at.words.items _ _ pushed at.invariant.below c.in_ok-next_caller.ensures.below;
      same = callers_more _ at.words.items _ _ _ _ _ _ _ _ c.first_word.ensures.split rest.words pushed size c.in_ok-next_caller.ensures.ok
          at.invariant.same;
    }

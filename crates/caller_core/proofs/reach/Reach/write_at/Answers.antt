use Rattle.caller_core.proofs.Cited.{◌∙◌, ap, sym, subst, ◌≤◌, List, length, get_or, ◌<◌, ◌≡◌, false, ◌&&◌, nat_lt, DeviceView, stands_at}
use Rattle.caller_core.proofs.ReachLemmas.{one_mark, no_mark, marks_on, one_place, no_place, stands_there, stands_within, or_false}
use Rattle.caller_core.proofs.reach.Reach.write_at.Goals.{then-is_at, else-is_at}
use Rattle.caller_core.proofs.reach.Reach.write_at.Goals as goal

pub loop-number-preserved : goal.loop-number-preserved
loop-number-preserved c =
    let n = c.loop-number.number in
    let marks = c.loop-number.invariant in
    let devices : c.devices-device-items.result.now ≡ c.args.board.now.devices = c.devices-device-items.ensures.value in
    let there : stands_at c.args.board.now c.args.bus c.args.addr n ≡ c.is_at.result =
    stands_there c.args.board.now c.args.bus c.args.addr n c.device-item.result
    (subst (λ xs. n < length xs) devices c.loop-number-test.true)
    (c.device-item.is ∙ ap (λ xs. get_or xs n c.device-item.result) devices) ∙ sym c.is_at.ensures in
    elim c.if-is_at.branch [
      | then-is_at w ↦
          record {
            forced = rw w.self-is marks.forced;
            written = rw w.self-is (marks_on _ _ _ _ _ _ marks.written (one_mark n c.loop-number.self.written)
                (one_place (stands_at c.args.board.now c.args.bus c.args.addr) n (there ∙ w.if-is_at.true)));
          }
      | else-is_at w ↦
          record {
            forced = rw w.self-is marks.forced;
            written = rw w.self-is (marks_on _ (λ i. false) _ _ _ _ marks.written (no_mark c.loop-number.self.written)
                (no_place (stands_at c.args.board.now c.args.bus c.args.addr) n (there ∙ w.if-is_at.false)));
          }
    ]

pub returns-clause-written : goal.returns-clause-written
returns-clause-written c =
    let past = subst (λ (xs : List DeviceView). length xs ≤ c.loop-number.number) c.devices-device-items.ensures.value
    c.loop-number-test.false in
    marks_on _ (λ i. false) _ _ _ _ c.loop-number.invariant.written (no_mark c.loop-number.self.written)
    (λ i. sym (or_false (nat_lt i c.loop-number.number && stands_at c.args.board.now c.args.bus c.args.addr i))
    ∙ stands_within c.args.board.now c.args.bus c.args.addr c.loop-number.number past i)

use Rattle.std.proofs.Common.{set, sym, ◌∙◌, ap}
use Rattle.targets.proofs.PageLemmas.{more-none, more-some}
use Rattle.targets.proofs.device.eeprom.write_page.Goals as goal
use Rattle.targets.proofs.device.eeprom.write_page.Goals.{in-Some, in_default}

pub loop-place-preserved : goal.loop-place-preserved
loop-place-preserved c =
    let place = c.loop-place.place in
    let same = c.match-byte.auto.page ∙ c.loop-place.invariant.same in
    elim c.match-byte.branch [
      | in-Some w ↦ record {
        taken =
            w.page-is ∙ ap (λ page. set page place w.in-Some.byte) c.loop-place.invariant.taken
            ∙ sym (more-some c.args.waiting.now c.args.page.now place w.in-Some.byte w.in-Some.is);
        same = same;
      }
      | in_default w ↦ record {
        taken = w.page-is ∙ c.loop-place.invariant.taken ∙ sym (more-none c.args.waiting.now c.args.page.now place w.in_default.is);
        same = same;
      }
    ]

use Rattle.bus_lines.proofs.Cited.{◌≡◌, ◌-◌, ◌<◌, suc, length, length-set, ◌∙◌, arith, shared}
use Rattle.bus_lines.proofs.BackLemmas.{first_all, first_back}
use Rattle.bus_lines.proofs.message.spread_each.Goals as goal

pub loop-number-init : goal.loop-number-init
loop-number-init c =
    record {
      few = omega arith;
      targets = first_all (shared c.args.left c.args.value) c.args.targets.now;
    }

pub loop-number-preserved : goal.loop-number-preserved
loop-number-preserved c =
    let number = c.loop-number.number in
    let now = c.loop-number.targets in
    let i = c.loop-number.invariant in
    let next : number ≡ suc (number - 1) = omega arith in
    let lt : number - 1 < length now = omega arith in
    record {
      few = omega (arith, i.few, length-set now (number - 1) c.give.new.target);
      targets = first_back (shared c.args.left c.args.value) number (number - 1) now _ c.give.new.target next lt c.give.ensures ∙ i.targets;
    }

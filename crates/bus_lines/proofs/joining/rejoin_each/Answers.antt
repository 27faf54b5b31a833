use Rattle.bus_lines.proofs.Cited.{◌≡◌, ◌-◌, ◌<◌, ◌||◌, suc, length, refl, ap, ◌∙◌, arith, holds_line, joins_by, read_anew, states_on}
use Rattle.bus_lines.proofs.BackLemmas.{some_back, some_none}
use Rattle.bus_lines.proofs.JoinLemmas.{back_next, rejoin_all}
use Rattle.bus_lines.proofs.joining.rejoin_each.Goals as goal

pub loop-left-init : goal.loop-left-init
loop-left-init c =
    record {
      back = record {
        few = omega arith;
        states = refl;
        targets = rejoin_all (joins_by c.args.places.now (states_on c.args.targets.now)) 0 c.args.targets.now;
      };
      held = some_none holds_line c.args.targets.now;
    }

pub loop-left-preserved : goal.loop-left-preserved
loop-left-preserved c =
    let left = c.loop-left.left in
    let now = c.loop-left.targets in
    let was = c.loop-left.invariant in
    let new = c.set_joined.new.target in
    let next : left ≡ suc (left - 1) = omega arith in
    let lt : left - 1 < length now = omega (arith, was.back.few) in
    record {
      back = back_next read_anew (λ j b. refl) was.back c.loop-left-test.true c.joins_by-joined.result c.joins_by-joined.ensures
          c.index-targets-left.result new c.set_joined.ensures;
      held = c.holds_with-held.ensures ∙ ap (λ b. holds_line new || b) was.held ∙ some_back holds_line left (left - 1) now new next lt;
    }

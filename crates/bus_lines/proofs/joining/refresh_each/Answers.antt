use Rattle.bus_lines.proofs.Cited.{refl, arith, joins_by, states_on, known}
use Rattle.bus_lines.proofs.JoinLemmas.{back_next, first_all}
use Rattle.bus_lines.proofs.joining.refresh_each.Goals as goal

pub loop-left-init : goal.loop-left-init
loop-left-init c =
    let joins = joins_by c.args.places.now (states_on c.args.targets.now) in
    record {
      few = omega arith;
      states = refl;
      targets = first_all (λ k b. known (joins k) b) 0 c.args.targets.now;
    }

pub loop-left-preserved : goal.loop-left-preserved
loop-left-preserved c =
    back_next known (λ j b. refl) c.loop-left.invariant c.loop-left-test.true c.joins_by-joined.result c.joins_by-joined.ensures
    c.index-targets-left.result c.set_known.new.target c.set_known.ensures

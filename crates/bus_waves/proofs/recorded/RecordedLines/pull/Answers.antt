use Rattle.std.proofs.Common.{refl, sym, subst}
use Rattle.bus_waves.specs.Levels.{Pull}
use Rattle.bus_waves.proofs.StepLemmas.{Goes, pull_goes}
use Rattle.bus_waves.proofs.KeepLemmas.{kept}
use Rattle.bus_waves.proofs.recorded.RecordedLines.pull.Goals as goal

pub invariant_of-self : goal.invariant_of-self
invariant_of-self c = λ whole.
    let old = c.self.inside.lines in
    let r = c.self.inside.kept in
    let e = c.keep.ensures in
    let more = e.steps whole in
    let was = c.self.invariant more.0 in
    let does = c.pull.ensures.bus refl in
    kept old.rooted old.bus c.pull.new.self.bus r.scl r.sda r.free r.steps.items was (Pull c.args.scl c.args.sda) does
    (subst (Goes old.bus) (sym does) (pull_goes old.rooted old.bus c.args.scl c.args.sda was.aside))
    c.levels-clock.result.0 c.levels-clock.result.1 c.levels-clock.ensures.clock c.levels-clock.ensures.data c.pull.new.self.rooted c.pull.ensures.board
    c.keep.new.self.scl c.keep.new.self.sda c.keep.new.self.free c.keep.new.self.steps.items e.scl e.sda e.free more.1

use Rattle.std.proofs.Common.{refl, sym, subst}
use Rattle.bus_waves.specs.Levels.{Look}
use Rattle.bus_waves.proofs.StepLemmas.{Goes, look_goes}
use Rattle.bus_waves.proofs.KeepLemmas.{kept}
use Rattle.bus_waves.proofs.recorded.RecordedLines.look.Goals as goal

pub invariant_of-self : goal.invariant_of-self
invariant_of-self c = λ whole.
    let old = c.self.inside.lines in
    let r = c.self.inside.kept in
    let e = c.keep.ensures in
    let more = e.steps whole in
    let was = c.self.invariant more.0 in
    let does = c.look-seen.ensures.bus refl in
    kept old.rooted old.bus c.look-seen.new.self.bus r.scl r.sda r.free r.steps.items was Look does
    (subst (Goes old.bus) (sym does) (look_goes old.bus was.aside))
    c.levels-clock.result.0 c.levels-clock.result.1 c.levels-clock.ensures.clock c.levels-clock.ensures.data c.look-seen.new.self.rooted c.look-seen.ensures.board
    c.keep.new.self.scl c.keep.new.self.sda c.keep.new.self.free c.keep.new.self.steps.items e.scl e.sda e.free more.1

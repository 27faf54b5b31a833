use Rattle.std.proofs.Common.{◌≡◌, Bool, true, refl, ap, sym, ◌∙◌, subst}
use Rattle.wire_spec.specs.Bus.{Bus, sda_level}
use Rattle.wire_spec.specs.Sites.{NodeState, node_table}
use Rattle.i2c_bits.specs.Wiring.{the_table}
use Rattle.bus_waves.specs.Levels.{Levels, Set, levels, levels_of}
use Rattle.bus_waves.specs.Recordings.{IsRecording}
use Rattle.bus_waves.specs.declared.record.Record.{Record}
use Rattle.bus_waves.proofs.StepLemmas.{Goes, line_goes}
use Rattle.bus_waves.proofs.KeepLemmas.{kept}
use Rattle.bus_waves.proofs.recorded.RecordedLines.line.Goals as goal

-- where the record has both lines high they are
high_data : (w : Bus NodeState) (scl sda : Bool) → levels scl sda ≡ levels_of w → sda ≡ true → sda_level node_table w ≡ true
unfolding the_table
high_data w scl sda is high = sym (ap (λ (l : Levels). l.sda) is) ∙ high

pub invariant_of-self : goal.invariant_of-self
invariant_of-self c = λ whole.
    let old = c.self.inside.lines in
    let r = c.rests.new.self in
    let e = c.keep.ensures in
    let more = e.steps whole in
    let rests = c.rests.ensures.whole more.0 in
    let was = c.self.invariant rests.0 in
    let same : r ≡ record c.self.inside.kept { whole = r.whole } = c.rests.ensures.kept in
    let was_now : IsRecording old.rooted old.bus r.scl r.sda r.free r.steps.items =
    subst (λ (x : Record). IsRecording old.rooted old.bus x.scl x.sda x.free x.steps.items) (sym same) was in
    let does = c.line.ensures.bus refl in
    kept old.rooted old.bus c.line.new.self.bus r.scl r.sda r.free r.steps.items was_now (Set c.args.mux c.args.level) does
    (subst (Goes old.bus) (sym does)
    (line_goes old.rooted c.args.mux c.args.level old.bus (was.away rests.1)
    (sym (ap (λ (l : Levels). l.scl) was.last) ∙ rests.2) (high_data old.bus _ _ was.last rests.3)))
    c.levels-clock.result.0 c.levels-clock.result.1 c.levels-clock.ensures.clock c.levels-clock.ensures.data c.line.new.self.rooted c.line.ensures.board
    c.keep.new.self.scl c.keep.new.self.sda c.keep.new.self.free c.keep.new.self.steps.items e.scl e.sda e.free more.1

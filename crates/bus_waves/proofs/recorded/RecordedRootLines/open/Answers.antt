use Rattle.std.proofs.Common.{ap, sym, ◌∙◌}
use Rattle.i2c_spec.specs.World.{opening_world}
use Rattle.i2c_bits.specs.Wiring.{Rooted}
use Rattle.bus_waves.proofs.KeepLemmas.{opens}
use Rattle.bus_waves.proofs.recorded.RecordedRootLines.open.Goals as goal

pub invariant_of-result : goal.invariant_of-result
invariant_of-result c = λ whole.
    let e = c.open-2.ensures in
    opens c.in_ok-open.field-0.rooted c.in_ok-open.field-0.bus c.in_ok-open.ensures.free
    (c.in_ok-open.ensures.world ∙ sym (ap (λ (r : Rooted). opening_world r.board r.root) c.in_ok-open.ensures.rooted)) c.in_ok-open.ensures.seen
    c.open-2.result.scl c.open-2.result.sda c.open-2.result.free e.scl e.sda c.open-2.result.steps.items e.steps

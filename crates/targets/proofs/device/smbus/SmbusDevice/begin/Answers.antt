use Rattle.std.proofs.Common.{◌≡◌, ◌∙◌, refl, sym, ap}
use Rattle.std.specs.Prelude.{if◌then◌else◌}
use Rattle.i2c_spec.specs.Targets.SmbusDevice.{SmbusView, code_so_far, smbus_begun, with_effect}
use Rattle.targets.specs.contracts.device.smbus.SmbusDevice.{the_view}
use Rattle.targets.proofs.Starts.{started}
use Rattle.targets.proofs.device.smbus.SmbusDevice.begin.Goals.{then-reading, else-reading, then-reading-2, else-reading-2}
use Rattle.targets.proofs.device.smbus.SmbusDevice.begin.Goals as goal

pub returns-clause-after : goal.returns-clause-after
returns-clause-after c =
    let s = c.args.self.now in
    let before : c.if-reading.self ≡ (if c.args.reading then with_effect s else s) =
    elim c.if-reading.branch [
      | then-reading w ↦ rw w.if-reading.true (w.self-is ∙ w.end_write.ensures)
      | else-reading w ↦ rw w.if-reading.false w.self-is
    ] in
    let phase : (the_view (record c.self.inside { awaits = c.if-reading-2.self })).phase ≡ smbus_begun c.args.reading =
    elim c.if-reading-2.branch [
      | then-reading-2 w ↦ rw (w.if-reading-2.true, w.self-is) refl
      | else-reading-2 w ↦ rw (w.if-reading-2.false, w.self-is) refl
    ] in
    started s (the_view c.self.inside) c.args.reading c.pec_with-self-inside.result c.code_so_far.result c.address_byte.result
    c.clear.new.self
    _ (c.self.view_is ∙ before) (c.code_so_far.ensures
    ∙ ap (λ (u : SmbusView). code_so_far u u.phase) (sym c.self.view_is)) c.address_byte.ensures c.pec_with-self-inside.ensures
    c.clear.ensures phase

use Rattle.i2c_board.proofs.Cited.{◌≡◌, ◌==◌, take, sym, ap, ◌∙◌, DeviceView, board_of, device_grant, grant_by, joined}
use Rattle.i2c_board.proofs.GrantLemmas.{device_grant-more, joined_same, joined_other}
use Rattle.i2c_board.proofs.layout.Layout.device_grant.Goals as goal
use Rattle.i2c_board.proofs.layout.Layout.device_grant.Goals.{then-eq, else-eq}

pub loop-place-preserved : goal.loop-place-preserved
loop-place-preserved c =
    let b = board_of c.args.self.now in
    let i = c.loop-place.place in
    let ds = b.devices in
    let d = c.device-item.result in
    let s = c.args.seg in
    let a = c.args.addr in
    let force = c.args.force in
    let before = device_grant b (take i ds) s a force in
    let read = ap (λ (x : DeviceView). x.addr == a) (sym c.device.view_is) in
    let found : c.if-eq.found ≡ joined c.loop-place.found (grant_by b i d s a force) =
    elim c.if-eq.branch [
      | then-eq w ↦ w.found-is ∙ w.join_device.ensures
          ∙ joined_same b i d s a force c.loop-place.found (read ∙ sym w.if-eq.ensures)
      | else-eq w ↦ w.found-is ∙ joined_other b i d s a force c.loop-place.found (read ∙ sym w.if-eq.ensures)
    ] in
    found ∙ ap (λ g. joined g (grant_by b i d s a force)) c.loop-place.invariant
    ∙ ap (λ (x : DeviceView). joined before (grant_by b i x s a force)) c.device-item.is
    ∙ sym (device_grant-more b ds i d s a force c.loop-place-test.true)

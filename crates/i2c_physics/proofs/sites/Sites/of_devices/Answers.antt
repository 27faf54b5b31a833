use Rattle.i2c_physics.proofs.Cited.{◌∙◌, ap, arith, DeviceView, board_of, device_place, few-made, one-made}
use Rattle.i2c_physics.proofs.sites.Sites.of_devices.Goals as goal

pub push_reserved-requires : goal.push_reserved-requires
push_reserved-requires c = omega (arith, c.loop-device.invariant.count, c.loop-device.invariant.room, c.loop-device-test.true)

pub loop-device-preserved : goal.loop-device-preserved
loop-device-preserved c =
    one-made _ _ _ _ _ _ c.loop-device.invariant c.loop-device-test.true c.device-item.result c.device-item.is _
    (c.in_ok-open.ensures ∙ ap (λ (d : DeviceView). device_place (board_of c.args.layout) c.args.root d) c.device.view_is) _ _ _
    c.push_reserved.ensures.items c.push_reserved.ensures.len c.push_reserved.ensures.capacity

pub of-requires : goal.of-requires
of-requires c = few-made _ _ _ _ _ _ _ c.loop-device.invariant c.loop-device.auto.device-index-end c.requires.most_devices

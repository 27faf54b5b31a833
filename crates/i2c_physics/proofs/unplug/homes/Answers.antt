use Rattle.i2c_physics.proofs.Cited.{◌∙◌, ap, arith, map, DeviceView, board_of, root_of, one-made, take_all}
use Rattle.i2c_physics.proofs.unplug.homes.Goals as goal

pub push_reserved-requires : goal.push_reserved-requires
push_reserved-requires c = omega (arith, c.loop-device.invariant.count, c.loop-device.invariant.room, c.loop-device-test.true)

pub loop-device-preserved : goal.loop-device-preserved
loop-device-preserved c =
    one-made _ _ _ _ _ _ c.loop-device.invariant c.loop-device-test.true c.device-item.result c.device-item.is _
    (c.root.ensures ∙ ap (λ (d : DeviceView). root_of (board_of c.args.layout) d.bus) c.device.view_is) _ _ _
    c.push_reserved.ensures.items c.push_reserved.ensures.len c.push_reserved.ensures.capacity

pub returns : goal.returns
returns c =
    c.loop-device.invariant.made
    ∙ ap (map (λ (d : DeviceView). root_of (board_of c.args.layout) d.bus))
    (take_all c.loop-device.device-index c.args.layout.devices.now (omega (arith, c.loop-device-test.false)))

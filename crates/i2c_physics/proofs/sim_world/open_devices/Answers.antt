use Rattle.i2c_physics.proofs.Cited.{◌∙◌, ap, arith, map, board_of, opened_on, one-made, take_all}
use Rattle.i2c_physics.proofs.sim_world.open_devices.Goals as goal

pub push_reserved-requires : goal.push_reserved-requires
push_reserved-requires c = omega (arith, c.loop-device.invariant.count, c.loop-device.invariant.room, c.loop-device-test.true)

pub loop-device-preserved : goal.loop-device-preserved
loop-device-preserved c =
    one-made _ _ _ _ _ _ c.loop-device.invariant c.loop-device-test.true c.device-item.result c.device-item.is _
    c.in_ok-open_device.ensures _ _ _
    c.push_reserved.ensures.items c.push_reserved.ensures.len c.push_reserved.ensures.capacity

pub returns : goal.returns
returns c =
    c.loop-device.invariant.made
    ∙ ap (map (opened_on (board_of c.args.layout) c.args.root))
    (take_all c.loop-device.device-index c.args.layout.devices.now (omega (arith, c.loop-device-test.false)))

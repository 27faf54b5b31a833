use Rattle.i2c_boardtext.proofs.Cited.{◌≡◌, Vec, Global, ◌<◌, ◌++◌, [], ◌∷◌, length, arith, table_view, device_of, devices_of, rows_of}
use Rattle.i2c_boardtext.proofs.Cited.{IsOn, Device, length-append, IsPlainDevice, All-push}
use Rattle.i2c_boardtext.proofs.RowLemmas.{read_more, all_read, fault_read}
use Rattle.i2c_boardtext.proofs.device.devices_of.Goals as goal
use Rattle.i2c_base.specs.declared.board.DeviceSpec.{DeviceSpec}

pub loop-value-preserved : goal.loop-value-preserved
loop-value-preserved c =
    let before = c.loop-value.devices.items in
    let device = c.in_ok-device.device in
    let same : c.push_reserved.new.self.items ≡ before ++ device ∷ [] = c.push_reserved.ensures.items in
    let within : c.loop-value.value-index < length c.args.rows.now = omega arith in
    record {
      count = rw (same, length-append before (device ∷ [])) (omega (arith, c.loop-value.invariant.count));
      room = rw c.push_reserved.ensures.capacity c.loop-value.invariant.room;
      plain = rw same (All-push IsPlainDevice before device c.loop-value.invariant.plain c.in_ok-device.ensures.plain);
      placed = rw same (All-push (IsOn c.args.buses) before device c.loop-value.invariant.placed c.in_ok-device.ensures.placed);
      told =
          read_more Device (λ before. device_of c.args.buses) before c.push_reserved.new.self.items device
          (devices_of c.args.buses (rows_of c.args.rows.now))
          c.args.rows.now c.loop-value.value-index c.value-item.result (table_view c.row.result.now) c.len-index.result within
          c.value-item.is c.row.ensures (omega arith) c.in_ok-device.ensures.exact same c.loop-value.invariant.told;
    }

pub returns-in_err-device-clause-exact : goal.returns-in_err-device-clause-exact
returns-in_err-device-clause-exact c =
    fault_read (λ (v : Vec DeviceSpec Global). v.items) Device (λ before. device_of c.args.buses) c.loop-value.devices.items
    (devices_of c.args.buses (rows_of c.args.rows.now))
    c.args.rows.now c.loop-value.value-index c.value-item.result
    (table_view c.row.result.now) c.len-index.result c.in_err-device.field-0.0 c.from_residual-in_err-device.result
    c.loop-value-test.true c.value-item.is c.row.ensures
    (omega arith) c.in_err-device.ensures.exact c.loop-value.invariant.told c.from_residual-in_err-device.ensures.1

pub returns-clause-exact : goal.returns-clause-exact
returns-clause-exact c =
    all_read Device (λ before. device_of c.args.buses) c.loop-value.devices.items
    (devices_of c.args.buses (rows_of c.args.rows.now)) c.args.rows.now c.loop-value.value-index
    c.loop-value-test.false c.loop-value.invariant.told

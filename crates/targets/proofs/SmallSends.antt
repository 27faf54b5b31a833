-- A device with an error code may go to another thread.
use denote.Param.{number}
use denote.Param.Send.{IsSend, struct_send, recorded_send, sendable}
use denote.Struct.Declared.{shape}
use Rattle.i2c_base.proofs.SendLemmas.{byte_store-send}
use Rattle.targets.specs.contracts.device.smbus.SmbusDevice as SmbusDevice
use Rattle.targets.specs.contracts.device.smbus.SmbusDevice.TheInside as inside
use Rattle.targets.specs.contracts.device.smbus.Awaits as Awaits

awaits-send : IsSend (Awaits.the_field).row
awaits-send = search sendable depth 20

inside-send : IsSend inside.the_row
inside-send =
    recorded_send (inside.the_field).row _ _ (inside.the_type).to_one (struct_send (shape (inside.the_type)) (
      search sendable depth 20,
      (
        search sendable depth 20,
        (
          search sendable depth 20,
          (
            awaits-send,
            (search sendable depth 20, (search sendable depth 20, (byte_store-send (number 256), (search sendable depth 20, tt)))),
          ),
        ),
      ),
    ))

pub smbus-send : IsSend (SmbusDevice.the_field).row
smbus-send = let i = inside-send in search sendable depth 20

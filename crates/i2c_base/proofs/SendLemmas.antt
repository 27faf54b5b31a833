-- Bytes that are held in place may go to another thread.
use denote.RattleType.{RattleType}
use denote.Param.Send.{IsSend, sendable}
use Rattle.i2c_base.specs.contracts.bytes.ByteStore as ByteStore
use Rattle.i2c_base.specs.contracts.bytes.ByteStore.TheInside as inside

inside-send : (N : RattleType) → IsSend (inside.the_field N).row
inside-send N = search sendable depth 20

pub byte_store-send : (N : RattleType) → IsSend (ByteStore.the_field N).row
byte_store-send N = let i = inside-send N in search sendable depth 20

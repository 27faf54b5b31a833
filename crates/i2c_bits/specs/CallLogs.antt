-- The calls that were made on a port.
use Rattle.std.specs.Prelude.{List, [], ◌∷◌, ◌++◌}
use Rattle.i2c_base.specs.declared.port.PortCall.{PortCall}
use Rattle.i2c_bits.specs.declared.call_log.CallLog.{CallLog, Nothing, Call'}

-- in order
abbrev pub calls_of : CallLog → List PortCall
calls_of Nothing = []
calls_of (Call' shape before call) = calls_of before ++ call.value ∷ []

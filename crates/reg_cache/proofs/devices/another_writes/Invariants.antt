use Rattle.reg_cache.proofs.Cited.{◌≡◌, drop, slice_get, BoardView, DeviceView, Texts, AreReaches, another_writes}
use Rattle.std.specs.Prelude.{Some}
use Rattle.reg_cache.proofs.devices.another_writes.Given as goal

abbrev pub invariant-loop-number : goal.invariant-loop-number
invariant-loop-number l =
    (b : BoardView) (texts : Texts) (v : DeviceView) → AreReaches b texts l.reaches → slice_get b.devices l.device ≡ Some v
    → another_writes b v.bus v.addr l.caller l.number (drop l.number texts) ≡ another_writes b v.bus v.addr l.caller 0 texts

use Rattle.addr_atr.proofs.Cited.{◌≡◌, map, take, lowered_device}
use Rattle.addr_atr.proofs.lower.lowered_devices.Given as goal

abbrev pub invariant-loop-device : goal.invariant-loop-device
invariant-loop-device l = l.devices.items ≡ map (lowered_device l.board l.translators) (take l.device-index l.device-items)

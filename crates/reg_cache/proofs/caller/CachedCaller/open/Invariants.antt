use Rattle.reg_cache.proofs.Cited.{◌≡◌, ◌≤◌, map, take, length, unknown}
use Rattle.std.specs.Prelude.{vec_capacity}
use Rattle.reg_cache.proofs.caller.CachedCaller.open.Given as goal

abbrev pub invariant-loop-device : goal.invariant-loop-device
invariant-loop-device l =
    record {
      items : l.kept.items ≡ map (unknown l.board) (take l.device-index l.fn.devices.items);
      room : length l.fn.devices.items ≤ vec_capacity l.kept;
    }

use Rattle.std.proofs.Common.{◌≡◌, ◌++◌, map, take, drop}
use Rattle.i2c_base.specs.Alias.{alias_of, readdressed}
use Rattle.i2c_base.proofs.transfer.readdress.Given as goal

abbrev pub invariant-loop-place : goal.invariant-loop-place
invariant-loop-place l =
    l.msgs ≡ map (readdressed (alias_of l.pairs)) (take l.place l.fn.msgs) ++ drop l.place l.fn.msgs

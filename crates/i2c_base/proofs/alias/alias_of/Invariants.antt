use Rattle.std.proofs.Common.{◌≡◌, drop}
use Rattle.i2c_base.specs.Alias.{alias_of}
use Rattle.i2c_base.proofs.alias.alias_of.Given as goal

abbrev pub invariant-loop-pair : goal.invariant-loop-pair
invariant-loop-pair l = alias_of (drop l.pair-index l.pairs) l.addr ≡ alias_of l.fn.pairs l.fn.addr

use Rattle.i2c_base.specs.Alias.{alias_of}
use Rattle.i2c_base.proofs.AliasLemmas.{redirected-kept}
use Rattle.i2c_base.proofs.transfer.Transfer.redirect.Goals as goal

pub invariant_of-self : goal.invariant_of-self
invariant_of-self c = redirected-kept (alias_of c.args.pairs.now) c.self.inside.msgs _ c.self.inside.out c.self.inside.size
    c.readdress.ensures c.self.invariant

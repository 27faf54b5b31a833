use Rattle.reg_cache.proofs.CacheLemmas.{cached-scripts-fair}
use Rattle.reg_cache.proofs.caller.cached_scripts_are_fair.Goals as goal

pub returns : goal.returns
returns c = cached-scripts-fair c.scripts_are_fair.ensures

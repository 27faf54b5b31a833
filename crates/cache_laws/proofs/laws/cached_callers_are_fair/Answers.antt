use Rattle.cache_laws.proofs.Fair.{cached-fair}
use Rattle.cache_laws.proofs.laws.cached_callers_are_fair.Goals as goal

pub returns : goal.returns
returns c = λ b x fair. cached-fair (λ s. x.asks) (λ s. x.left) (λ s. b) fair (λ s. x.kept)

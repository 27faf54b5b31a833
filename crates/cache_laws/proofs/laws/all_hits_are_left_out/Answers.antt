use Rattle.cache_laws.proofs.Fair.{leaves-hits-out}
use Rattle.cache_laws.proofs.laws.all_hits_are_left_out.Goals as goal

pub returns : goal.returns
returns c = λ b x fair. leaves-hits-out (λ s. x.asks) (λ s. x.left) (λ s. b) fair (λ s. x.kept) tt

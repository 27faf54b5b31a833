use Rattle.reg_cache.proofs.Cited.{◌∙◌, sym, ap, List, Reply, asked_by, CachedView, cached_asked}
use Rattle.reg_cache.proofs.caller.CachedCallerCaller.refill.Goals as goal

pub returns-clause-some : goal.returns-clause-some
returns-clause-some c is =
    sym (ap (λ (l : List Reply). asked_by c.self.inside.script.script l) (sym c.self.invariant.0.whole)
    ∙ ap (λ (z : CachedView). cached_asked z.script z.taken) c.self.view_is)
    ∙ c.refill.ensures.some is

pub returns-clause-none : goal.returns-clause-none
returns-clause-none c is =
    sym (ap (λ (l : List Reply). asked_by c.self.inside.script.script l) (sym c.self.invariant.0.whole)
    ∙ ap (λ (z : CachedView). cached_asked z.script z.taken) c.self.view_is)
    ∙ c.refill.ensures.none is

use Rattle.reg_cache.proofs.Cited.{◌∙◌, sym, ap, List, Reply, asked_by, CachedView, cached_asked}
use Rattle.reg_cache.proofs.caller.CachedCallerCaller.next.Goals as goal

pub returns : goal.returns
returns c =
    c.next.ensures ∙ ap (λ (l : List Reply). asked_by c.self.inside.script.script l) (sym c.self.invariant.0.whole)
    ∙ ap (λ (z : CachedView). cached_asked z.script z.taken) c.self.view_is

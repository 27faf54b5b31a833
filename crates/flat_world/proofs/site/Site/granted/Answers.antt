use Rattle.flat_world.proofs.Cited.{sym, subst, ◌∙◌, IsPlainBoard}
use Rattle.flat_world.proofs.NamedLemmas.{granted_small}
use Rattle.flat_world.proofs.site.Site.granted.Goals as goal

pub returns-in-Named-clause-small : goal.returns-in-Named-clause-small
returns-in-Named-clause-small c =
    let plain = subst IsPlainBoard (sym c.layout.ensures.value) c.layout.ensures.plain in
    rw c.device.view_is (granted_small _ _ _ _ _ plain (sym c.grant.ensures ∙ c.in-Named.is))

use Rattle.flat_world.proofs.Cited.{sym, ◌∙◌, ap, is_member}
use Rattle.flat_world.proofs.NamedLemmas.{named_push}
use Rattle.flat_world.proofs.devices.name.Goals as goal

pub returns-then-not-is_named-clause-new : goal.returns-then-not-is_named-clause-new
returns-then-not-is_named-clause-new c =
    let apart = ap (is_member c.in-Some.device) (sym c.as_slice.ensures.value) ∙ sym c.is_named.ensures ∙ c.if-not-is_named.true in
    rw c.push.ensures.items (named_push c.args.named.now.items c.in-Some.device c.requires.old (rw c.in-Some.is at c.requires.small) apart)

use Rattle.bus_lines.proofs.Cited.{refl, seen}
use Rattle.bus_lines.proofs.InvariantLemmas.{low_coming, low_within}
use Rattle.bus_lines.proofs.RootLemmas.{seen_after, edge_told_listed, edge_seen}
use Rattle.bus_lines.proofs.root_targets.RootTargets.see_low.Goals as goal

pub invariant_of-self : goal.invariant_of-self
invariant_of-self c =
    let t = c.tell-self-inside in
    edge_told_listed c.self.inside c.self.invariant c.args.edge (low_within c.args.edge c.requires) (low_coming c.args.edge c.requires) _
    c.told.ensures.value _ t.ensures.targets t.result t.ensures.held

pub returns : goal.returns
returns c =
    let t = c.tell-self-inside in
    seen_after c.self.inside (seen c.args.edge) (λ n. n)
    (edge_seen c.self.inside c.self.invariant c.args.edge (low_within c.args.edge c.requires) (low_coming c.args.edge c.requires) _
    c.told.ensures.value _ t.ensures.targets t.result (invariant_of-self c))
    refl c.self.view_is

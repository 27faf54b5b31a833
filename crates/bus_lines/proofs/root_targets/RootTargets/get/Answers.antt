use Rattle.bus_lines.proofs.Cited.{map, ap, ◌∙◌, and_all, byte_seen, Get, seen, gives_get, TargetsView}
use Rattle.bus_lines.proofs.GetLemmas.{gives_none, gives_nobody, gets_hold, gets_coming, gives_coming}
use Rattle.bus_lines.proofs.RootLemmas.{seen_after, edge_held_listed, edge_seen}
use Rattle.bus_lines.proofs.ToldLemmas.{given_told}
use Rattle.bus_lines.proofs.root_targets.RootTargets.get.Goals as goal

pub invariant_of-self : goal.invariant_of-self
invariant_of-self c =
    edge_held_listed c.self.inside c.self.invariant (Get c.args.ack) tt (gets_coming c.args.ack) _ c.told.ensures.value _
    c.get_all-byte.ensures.targets (gets_hold c.args.ack)

pub returns-clause-byte : goal.returns-clause-byte
returns-clause-byte c =
    c.get_all-byte.ensures.byte
    ∙ given_told c.self.inside c.self.invariant _ c.told.ensures.value gives_get gives_none gives_nobody gives_coming
    ∙ ap (λ (v : TargetsView). and_all (map gives_get v.bits)) c.self.view_is

pub returns-clause-after : goal.returns-clause-after
returns-clause-after c =
    seen_after c.self.inside (seen (Get c.args.ack)) (byte_seen c.get_all-byte.result c.args.ack)
    (edge_seen c.self.inside c.self.invariant (Get c.args.ack) tt (gets_coming c.args.ack) _ c.told.ensures.value _
    c.get_all-byte.ensures.targets c.self.inside.held (invariant_of-self c))
    c.add_byte.ensures c.self.view_is

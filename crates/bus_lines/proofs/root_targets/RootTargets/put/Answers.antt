use Rattle.bus_lines.proofs.Cited.{ap, ◌∙◌, some_one, byte_seen, Put, seen, acks_put, TargetsView}
use Rattle.bus_lines.proofs.PutLemmas.{acks_none, acks_nobody, puts_hold, puts_coming, acks_coming}
use Rattle.bus_lines.proofs.RootLemmas.{seen_after, edge_held_listed, edge_seen}
use Rattle.bus_lines.proofs.ToldLemmas.{some_told}
use Rattle.bus_lines.proofs.root_targets.RootTargets.put.Goals as goal

pub invariant_of-self : goal.invariant_of-self
invariant_of-self c =
    edge_held_listed c.self.inside c.self.invariant (Put c.args.byte) tt (puts_coming c.args.byte) _ c.told.ensures.value _
    c.put_all-acked.ensures.targets (puts_hold c.args.byte)

pub returns-clause-acked : goal.returns-clause-acked
returns-clause-acked c =
    let byte = c.args.byte in
    let acks = acks_put byte in
    c.put_all-acked.ensures.acked
    ∙ some_told c.self.inside c.self.invariant _ c.told.ensures.value acks (acks_none byte) (acks_nobody byte) (acks_coming byte)
    ∙ ap (λ (v : TargetsView). some_one acks v.bits) c.self.view_is

pub returns-clause-after : goal.returns-clause-after
returns-clause-after c =
    seen_after c.self.inside (seen (Put c.args.byte)) (byte_seen c.args.byte c.put_all-acked.result)
    (edge_seen c.self.inside c.self.invariant (Put c.args.byte) tt (puts_coming c.args.byte) _ c.told.ensures.value _
    c.put_all-acked.ensures.targets c.self.inside.held (invariant_of-self c))
    c.add_byte.ensures c.self.view_is

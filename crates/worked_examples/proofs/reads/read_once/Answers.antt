use Rattle.std.proofs.Common.{◌<◌, ◌∙◌, length, ap, arith, rules}
use Rattle.worked_examples.proofs.ReadLemmas.{edges_of_one, read_edges}
use Rattle.worked_examples.proofs.reads.read_once.Goals as goal

pub returns : goal.returns
returns c =
    let some : 0 < length c.in-Ok.ports.items = search rules in
    c.edges.ensures ∙ c.unplug.ensures.edges
    ∙ edges_of_one c.in-Ok.ports.items c.index_mut.result.now c.read_register.new.port 38 some c.in-Ok.ensures.seen (omega arith)
    c.index_mut.ensures.value (read_edges _ _ _ _ _ c.in_ok-byte.ensures)

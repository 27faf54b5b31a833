use Rattle.wire_spec.proofs.Cited.{node_table}
use Rattle.wire_spec.proofs.StartLemmas.{node_fair}
use Rattle.wire_spec.proofs.StartLaws.{held_comes_up}
use Rattle.wire_spec.proofs.starts.a_clock_that_is_held_for_64_looks_comes_up.Goals as goal

pub returns : goal.returns
returns c = held_comes_up node_table (node_fair c.chips_are_fair.ensures c.states_are_fair.ensures)

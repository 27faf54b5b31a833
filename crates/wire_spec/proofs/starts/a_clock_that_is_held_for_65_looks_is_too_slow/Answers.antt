use Rattle.wire_spec.proofs.Cited.{node_table}
use Rattle.wire_spec.proofs.StartLemmas.{node_fair}
use Rattle.wire_spec.proofs.StartLaws.{slow_stays_low}
use Rattle.wire_spec.proofs.starts.a_clock_that_is_held_for_65_looks_is_too_slow.Goals as goal

pub returns : goal.returns
returns c = slow_stays_low node_table (node_fair c.chips_are_fair.ensures c.states_are_fair.ensures)

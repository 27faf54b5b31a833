use Rattle.wire_spec.proofs.SiteLaws.{start_on_sites}
use Rattle.wire_spec.proofs.worlds.a_start_on_the_sites_is_one_in_the_world.Goals as goal

pub returns : goal.returns
returns c = start_on_sites c.chips_are_fair.ensures c.states_are_fair.ensures

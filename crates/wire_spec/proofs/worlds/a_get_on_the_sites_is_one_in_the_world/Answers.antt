use Rattle.wire_spec.proofs.SiteLaws.{get_on_sites}
use Rattle.wire_spec.proofs.worlds.a_get_on_the_sites_is_one_in_the_world.Goals as goal

pub returns : goal.returns
returns c = get_on_sites c.chips_are_fair.ensures c.states_are_fair.ensures

use Rattle.wire_spec.proofs.SiteLaws.{stop_on_sites}
use Rattle.wire_spec.proofs.worlds.a_stop_on_the_sites_is_one_in_the_world.Goals as goal

pub returns : goal.returns
returns c = stop_on_sites

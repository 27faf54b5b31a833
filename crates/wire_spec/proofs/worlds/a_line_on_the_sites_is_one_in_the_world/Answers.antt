use Rattle.wire_spec.proofs.SiteLaws.{line_on_sites}
use Rattle.wire_spec.proofs.worlds.a_line_on_the_sites_is_one_in_the_world.Goals as goal

pub returns : goal.returns
returns c = line_on_sites

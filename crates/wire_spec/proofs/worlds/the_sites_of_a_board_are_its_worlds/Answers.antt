use Rattle.wire_spec.proofs.SiteLaws.{opened_sites}
use Rattle.wire_spec.proofs.worlds.the_sites_of_a_board_are_its_worlds.Goals as goal

pub returns : goal.returns
returns c = opened_sites

use Rattle.wire_spec.proofs.SiteLaws.{parts_of_both}
use Rattle.wire_spec.proofs.worlds.chips_stand_before_devices.Goals as goal

pub returns : goal.returns
returns c = parts_of_both

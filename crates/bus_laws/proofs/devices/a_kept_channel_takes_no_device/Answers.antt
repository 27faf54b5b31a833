use Rattle.bus_laws.proofs.device.Grant.{none-aside}
use Rattle.bus_laws.proofs.devices.a_kept_channel_takes_no_device.Goals as goal

pub returns : goal.returns
returns c =
    λ b s d x plain rules at on. none-aside b (c.an_accepted_board_is_a_tree.ensures b plain rules) s d x at on

use Rattle.caller_core.proofs.ReachLemmas.{has_none}
use Rattle.caller_core.proofs.reach.Reach.of_no_line.Goals as goal

pub returns : goal.returns
returns c = has_none c.args.board.now c.devices-few.ensures.plain.most_devices

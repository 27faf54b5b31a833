-- A port that fails as it is told may go to another thread.
use denote.RattleType.{RattleType}
use denote.Param.Send.{IsSend, sendable}
use Rattle.std.proofs.Crossing.{crosses}
use Rattle.i2c_physics.proofs.SendLemmas.{port-send}
use Rattle.journal_check.specs.declared.told_port.Telling as Telling
use Rattle.journal_check.specs.contracts.told_port.ToldPort as ToldPort

pub told_port-send : (N : RattleType) (told : Telling.Ghosts N.Denot) → IsSend N → IsSend (ToldPort.the_field N told).row
told_port-send N told sends = search (crosses, sendable, port-send) depth 40 fits 100000

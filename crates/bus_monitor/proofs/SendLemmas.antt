-- Threads may share a desk where its ports and callers, and the name, may go to another thread.
use denote.RattleType.{RattleType}
use denote.Ref.{NamedLft}
use denote.Param.Send.{IsSend, IsSync, sendable}
use Rattle.std.proofs.Crossing.{crosses}
use Rattle.i2c_base.specs.declared.caller.Caller as caller
use Rattle.ports.specs.declared.port.Port as port
use Rattle.bus_core.proofs.SendLemmas.{core-send}
use Rattle.bus_monitor.specs.declared.naming.Naming as naming
use Rattle.bus_monitor.specs.contracts.desk.Named as named
use Rattle.bus_monitor.specs.contracts.desk.Desk as desk

named-send : (a : NamedLft) (P C N S : RattleType) (g : port.Ghosts P.Denot) (c : caller.Ghosts C.Denot S.Denot)
    (n : naming.Ghosts N.Denot S.Denot) → IsSend P → IsSend C → IsSend N → IsSend (named.the_row a P C N S g c n)
named-send a P C N S g c n ports callers names = search (sendable, crosses, core-send) depth 60 fits 100000

pub desk-sync : (a : NamedLft) (P C N S : RattleType) (g : port.Ghosts P.Denot) (c : caller.Ghosts C.Denot S.Denot)
    (n : naming.Ghosts N.Denot S.Denot) → IsSend P → IsSend C → IsSend N → IsSync (desk.the_row a P C N S g c n)
desk-sync a P C N S g c n ports callers names = search (sendable, crosses, named-send) depth 60 fits 100000

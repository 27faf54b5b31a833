-- A core may go to another thread where its ports and callers may. Each type by itself, since `search` takes no more steps at
-- once.
use denote.RattleType.{RattleType}
use denote.Ref.{NamedLft}
use denote.Param.Send.{IsSend, IsSync, sendable, view_send}
use Rattle.std.proofs.Crossing.{crosses}
use Rattle.ports.specs.declared.port.Port as port
use Rattle.i2c_base.specs.declared.caller.Caller as caller
use Rattle.i2c_base.specs.contracts.transfer.Transfer as transfer
use Rattle.i2c_board.specs.contracts.accepted.Accepted as accepted
use Rattle.mux_plan.specs.contracts.walk.Walk as walk
use Rattle.mux_plan.specs.contracts.walk.Walk.TheInside as walk_inside
use Rattle.mux_plan.specs.contracts.task.Task as task
use Rattle.mux_plan.specs.contracts.route.Route as route
use Rattle.mux_plan.specs.contracts.stack.Stack as stack
use Rattle.mux_plan.specs.contracts.parts.WalkState as walk_parts
use Rattle.bus_journal.specs.contracts.journal.Journal as journal
use Rattle.seg_locks.specs.contracts.locks.Locks as locks
use Rattle.bus_core.specs.contracts.replies.Replies as replies
use Rattle.bus_core.specs.contracts.seat.Seat as seat
use Rattle.bus_core.specs.contracts.parts.CoreInside as parts
use Rattle.bus_core.specs.contracts.bus.BusCore as core
use Rattle.bus_core.specs.contracts.bus.BusCore.TheInside as core_inside

transfer-send : IsSend transfer.the_row
transfer-send = search (sendable, crosses) depth 60 fits 100000

task-send : IsSend task.the_row
task-send = search (sendable, crosses) depth 60 fits 100000

route-send : IsSend route.the_row
route-send = search (sendable, crosses) depth 60 fits 100000

stack-send : (T : RattleType) → IsSend T → IsSend (stack.the_row T)
stack-send T sends = search (sendable, crosses) depth 60 fits 100000

-- a struct without a model stands in another as the row of its fields
walk_parts-send : IsSend walk_parts.the_field.row
walk_parts-send = search (sendable, crosses, task-send, route-send, stack-send) depth 60 fits 100000

walk_inside-send : IsSend walk_inside.the_row
walk_inside-send = search (sendable, crosses, walk_parts-send) depth 60 fits 100000

walk-send : IsSend walk.the_row
walk-send = view_send walk_inside.the_row _ _ _ _ walk_inside-send

journal-send : IsSend journal.the_row
journal-send = search (sendable, crosses) depth 60 fits 100000

locks-send : IsSend locks.the_row
locks-send = search (sendable, crosses) depth 60 fits 100000

replies-send : IsSend replies.the_row
replies-send = search (sendable, crosses) depth 60 fits 100000

accepted-sync : IsSync accepted.the_row
accepted-sync = search (sendable, crosses) depth 60 fits 100000

seat-send : (C : RattleType) → IsSend C → IsSend (seat.the_row C)
seat-send C sends = search (sendable, crosses, transfer-send, walk-send, replies-send) depth 60 fits 100000

parts-send : (a : NamedLft) (P C : RattleType) → IsSend P → IsSend C → IsSend (parts.the_field a P C).row
parts-send a P C ports callers = search (sendable, crosses, seat-send, journal-send, locks-send, accepted-sync) depth 60 fits 100000

core_inside-send : (a : NamedLft) (P C S : RattleType) (g : port.Ghosts P.Denot) (c : caller.Ghosts C.Denot S.Denot) → IsSend P → IsSend C
    → IsSend (core_inside.the_row a P C S g c)
core_inside-send a P C S g c ports callers = search (sendable, crosses, parts-send) depth 60 fits 100000

pub core-send : (a : NamedLft) (P C S : RattleType) (g : port.Ghosts P.Denot) (c : caller.Ghosts C.Denot S.Denot) → IsSend P → IsSend C
    → IsSend (core.the_row a P C S g c)
core-send a P C S g c ports callers = view_send (core_inside.the_row a P C S g c) _ _ _ _ (core_inside-send a P C S g c ports callers)

-- A mux on the way to a bus may go to another thread.
use denote.Param.Send.{IsSend, struct_send, recorded_send, sendable}
use denote.Struct.Declared.{shape}
use Rattle.i2c_base.specs.contracts.board.MuxKind as MuxKind
use Rattle.i2c_board.specs.contracts.hop.Hop as Hop
use Rattle.i2c_board.specs.contracts.hop.Hop.TheInside as inside

kind-send : IsSend (MuxKind.the_field).row
kind-send = search sendable depth 20

inside-send : IsSend inside.the_row
inside-send =
    recorded_send (inside.the_field).row _ _ (inside.the_type).to_one (struct_send (shape (inside.the_type)) (
      search sendable depth 20,
      (
        search sendable depth 20,
        (search sendable depth 20, (search sendable depth 20, (search sendable depth 20, (kind-send, (search sendable depth 20, tt))))),
      ),
    ))

pub hop-send : IsSend (Hop.the_field).row
hop-send = search (sendable, inside-send) depth 20

-- The next message of a walk: what goes over the wires, who would hear it, and what it leaves of the port of its root.
use Rattle.std.specs.Prelude.{◌≡◌, ℕ, ◌+◌, ◌≤◌, Bool, true, false, IsTrue, Option, Some, None, List, length, if◌then◌else◌}
use Rattle.i2c_base.specs.declared.ids.Node.{Node}
use Rattle.i2c_base.specs.declared.ids.Node.TheVariants as node
use Rattle.i2c_base.specs.declared.entry.End.{End}
use Rattle.i2c_base.specs.declared.entry.End.TheVariants as end
use Rattle.i2c_base.specs.declared.entry.Purpose.{Purpose}
use Rattle.i2c_base.specs.declared.entry.Purpose.TheVariants as purpose
use Rattle.i2c_base.specs.declared.tree.Grant.{Grant}
use Rattle.i2c_base.specs.declared.tree.Grant.TheVariants as grant
use Rattle.i2c_base.specs.Board.{BoardView}
use Rattle.i2c_base.specs.Limits.{MOST_CALLS}
use Rattle.i2c_base.specs.Phases.{MayStart}
use Rattle.i2c_base.specs.Transfer.{TransferView}
use Rattle.i2c_spec.specs.Grant.{grant_of}
use Rattle.i2c_spec.specs.Tree.{addr_of_mux}
use Rattle.i2c_spec.specs.Messages.{MessageView, messages_of, write_byte, read_byte, bytes_most}
use Rattle.i2c_spec.specs.World.{World, has_heard, answer}
use Rattle.i2c_spec.specs.Flat.{block_limit}
use Rattle.i2c_spec.specs.Conversation.{world_listener, talk}
use Rattle.bus_spec.specs.Walk.{nth_message}
use Rattle.bus_spec.specs.Past.{cut_of}
use Rattle.bus_spec.specs.Legal.{start_failed}
use Rattle.mux_plan.specs.Plans.{ends_with}
use Rattle.mux_plan.specs.declared.task.NextMsg.{NextMsg}
use Rattle.bus_message.specs.Ports.{RootPort, Spoke}
use Rattle.bus_message.specs.Talks.{Gives, TellsTalk}
use Rattle.bus_message.specs.declared.message.MsgResult.{MsgResult}

-- a control message: it writes its byte, or reads one
abbrev pub control_message : ℕ → Option ℕ → MessageView
control_message addr (Some byte) = write_byte addr byte
control_message addr None = read_byte addr

-- the next message of the caller's transfer
abbrev pub call_message : TransferView → ℕ → MessageView
call_message t sent = nth_message (messages_of t) sent

-- what goes over the wires, a control message to this address
abbrev pub message_for : TransferView → ℕ → Purpose → Option ℕ → ℕ → MessageView
message_for t sent purpose.Call control addr = call_message t sent
message_for t sent (purpose.Control m) control addr = control_message addr control

-- the address of a mux's chip, where the board has it and it isn't a gpio mux
abbrev pub IsChipAddress : BoardView → Purpose → ℕ → Type 0
IsChipAddress b purpose.Call addr = Unit {0}
IsChipAddress b (purpose.Control m) addr = (a : ℕ) → addr_of_mux b m ≡ Some a → addr ≡ a

-- who hears a message where its start is acknowledged: the device that is granted
abbrev pub device_of : Grant → Option Node
device_of (grant.Named d) = Some (node.Device d)
device_of grant.Nobody = None
device_of grant.Busy = None

-- .. or the chip of the mux that the message is for
abbrev pub hearer_of : Purpose → Grant → Option Node
hearer_of purpose.Call g = device_of g
hearer_of (purpose.Control m) g = Some (node.Chip m)

-- who is told to have heard it is so by the answer of its start; nobody where the start itself failed
pub record IsHeard (b : BoardView) (t : TransferView) (why : Purpose) (m : MessageView) (w : World) (heard : Option Node)
    (e : End) : Type 0 where
  pub acked : Bool
  pub named : heard ≡ (if acked then hearer_of why (grant_of b t.bus m.addr t.force) else None)
  pub failed : start_failed e ≡ true → acked ≡ false
  pub answered : start_failed e ≡ false → acked ≡ has_heard (answer w m.addr m.reading)

-- a message was sent on the port of a root: its world and its log are new
pub record HasSent (b : BoardView) (t : TransferView) (why : Purpose) (m : MessageView) (last : Bool) (old new : RootPort) (bytes : List ℕ)
    (heard : Option Node) (e : End) : Type 0 where
  pub root : new.root ≡ old.root
  pub said : TellsTalk (talk world_listener (block_limit b) old.world m last (cut_of e)) bytes e new.world old.log new.log
  pub hears : IsHeard b t why m old.world heard e

-- what goes over the wires next, a control message to this address
abbrev pub wire_message : TransferView → ℕ → NextMsg → ℕ → MessageView
wire_message t sent next addr = message_for t sent next.purpose next.control addr

-- the next message of a walk may be sent on a port: its log has room, whichever address a control message goes to
pub record MaySend (b : BoardView) (tells : Bool) (t : TransferView) (sent : ℕ) (next : NextMsg) (x : RootPort) : Type 0 where
  pub start : MayStart x.phase
  pub room : (addr : ℕ) → IsTrue tells → length x.log + (bytes_most (block_limit b) (wire_message t sent next addr) + 2) ≤ MOST_CALLS

-- the next message of a walk was sent on a port
pub record NextSent (b : BoardView) (tells : Bool) (t : TransferView) (sent : ℕ) (next : NextMsg) (old new : RootPort) (bytes : List ℕ)
    (r : MsgResult) : Type 0 where
  pub addr : r.addr ≡ (wire_message t sent next r.addr).addr
  pub reading : r.reading ≡ (wire_message t sent next r.addr).reading
  pub chip : IsChipAddress b next.purpose r.addr
  pub spoke : Spoke tells (ends_with next.purpose next.part next.parts)
      (bytes_most (block_limit b) (wire_message t sent next r.addr)) bytes r.end old new
  pub gives : r.end ≡ end.Ok → r.reading ≡ true → Gives (block_limit b) (wire_message t sent next r.addr) bytes
  pub has : IsTrue tells → HasSent b t next.purpose (wire_message t sent next r.addr)
      (ends_with next.purpose next.part next.parts) old new bytes r.heard r.end

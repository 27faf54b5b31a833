-- The flat world: devices and nothing else. No mux states, no locks, no other caller; a transfer names its devices
-- by the grant of its addresses.
use Rattle.std.specs.Prelude.{ℕ, ◌==◌, nat_lt, Bool, true, false, not, ◌&&◌, List, [], ◌∷◌, Option, Some, None, slice_get, if◌then◌else◌, unwrap_or}
use Rattle.std.specs.List.{list_any}
use Rattle.std.specs.Option.{option_map_or}
use Rattle.i2c_base.specs.declared.event.Event.{Event}
use Rattle.i2c_base.specs.declared.event.Event.TheVariants as event
use Rattle.i2c_base.specs.declared.event.Answer.{Answer}
use Rattle.i2c_base.specs.declared.event.Answer.TheVariants as answer
use Rattle.i2c_base.specs.declared.port.PortCall.{PortCall}
use Rattle.i2c_base.specs.declared.port.PortCall.TheVariants as call
use Rattle.i2c_base.specs.declared.entry.End.{End}
use Rattle.i2c_base.specs.declared.entry.End.TheVariants as end
use Rattle.i2c_base.specs.declared.errno.Errno.{Errno}
use Rattle.i2c_base.specs.declared.errno.Errno.TheVariants as errno
use Rattle.i2c_base.specs.declared.reply.Reply.{Reply}
use Rattle.i2c_base.specs.declared.reply.Reply.TheVariants as reply
use Rattle.i2c_base.specs.declared.reply.Cut.{Cut}
use Rattle.i2c_base.specs.declared.reply.Cut.TheVariants as cut_at
use Rattle.i2c_base.specs.declared.transfer.TransferKind.{TransferKind}
use Rattle.i2c_base.specs.declared.transfer.TransferKind.TheVariants as transfer_kind
use Rattle.i2c_base.specs.declared.tree.Way.{Way}
use Rattle.i2c_base.specs.declared.tree.Way.TheVariants as way
use Rattle.i2c_base.specs.Board.{BoardView}
use Rattle.i2c_base.specs.Limits.{BLOCK_LIMIT, limit_of}
use Rattle.i2c_base.specs.Transfer.{TransferView, is_read}
use Rattle.i2c_spec.specs.Tree.{buses, root_of}
use Rattle.i2c_spec.specs.Grant.{grant_of, is_busy, named_of, way_of}
use Rattle.i2c_spec.specs.Targets.{TargetState, state_table}
use Rattle.i2c_base.specs.Table.{byte_of}
use Rattle.i2c_spec.specs.World.{feed, has_heard, is_ack}
use Rattle.i2c_spec.specs.Messages.{messages_of}
use Rattle.i2c_spec.specs.Conversation.{Listener, AllTold, is_it, talk_all}

-- the devices, those that the transfer has named so far, and the one that listens to the message in progress
pub record FlatListener : Type 0 where
  pub states : List TargetState
  pub named : List ℕ
  pub current : Option ℕ

abbrev pub idle : List TargetState → FlatListener
idle states = record { states = states; named = []; current = None }

abbrev pub is_member : ℕ → List ℕ → Bool
is_member d ds = list_any (λ k. k == d) ds

abbrev pub put_named : Option ℕ → List ℕ → List ℕ
put_named None ds = ds
put_named (Some d) ds = d ∷ ds

-- a start goes as Start to the device that the grant names, and as Other to those named before
abbrev pub flat_start : Option ℕ → List ℕ → Bool → ℕ → Option Event
flat_start granted named reading d =
    if is_it granted d then Some (event.Start reading)
    else if is_member d named then Some event.Other
    else None

abbrev pub to_current : Option ℕ → Event → ℕ → Option Event
to_current current e d = if is_it current d then Some e else None

abbrev pub to_named : List ℕ → Event → ℕ → Option Event
to_named named e d = if is_member d named then Some e else None

-- what the device of this number answers; nobody is silence
abbrev pub answer_of : List TargetState → Option ℕ → Event → Answer
answer_of states None e = answer.Nothing
answer_of states (Some d) e = option_map_or (λ x. state_table.answer x e) (slice_get states d) answer.Nothing

abbrev pub acknowledged : Answer → Answer
acknowledged answer.Ack = answer.Ack
acknowledged answer.Slow = answer.Slow
acknowledged answer.Nack = answer.Nack
acknowledged (answer.Byte byte) = answer.Nack
acknowledged answer.Nothing = answer.Nack

abbrev pub flat_stopped : FlatListener → FlatListener
flat_stopped f = idle (feed state_table (to_named f.named event.Stop) 0 f.states)

-- it listens where it acknowledges, or holds the clock to do so
abbrev pub flat_after : (ℕ → Option ℕ) → FlatListener → PortCall → FlatListener
flat_after granted f (call.Start a reading) =
    record {
      states = feed state_table (flat_start (granted a) f.named reading) 0 f.states;
      named = put_named (granted a) f.named;
      current = if has_heard (answer_of f.states (granted a) (event.Start reading)) then granted a else None;
    }
flat_after granted f (call.Put byte) = record f { states = feed state_table (to_current f.current (event.Put byte)) 0 f.states }
flat_after granted f (call.Get ack) = record f { states = feed state_table (to_current f.current (event.Get ack)) 0 f.states }
flat_after granted f call.Stop = flat_stopped f
flat_after granted f call.Fault = flat_stopped f
flat_after granted f (call.Line m level) = f

abbrev pub flat_listener : (ℕ → Option ℕ) → Listener FlatListener
flat_listener granted =
    record {
      after = flat_after granted;
      answer = λ f a reading. acknowledged (answer_of f.states (granted a) (event.Start reading));
      takes = λ f byte. is_ack (answer_of f.states f.current (event.Put byte));
      gives = λ f. byte_of (answer_of f.states f.current (event.Get true));
    }

abbrev pub granted_on : BoardView → ℕ → Bool → ℕ → Option ℕ
granted_on b s force a = named_of (grant_of b s a force)

-- the most bytes of a block, which the board's version tells
abbrev pub block_limit : BoardView → ℕ
block_limit b = unwrap_or (limit_of b.version) BLOCK_LIMIT

-- how a message that ended early makes its transfer fail
abbrev pub errno_of : End → Option Errno
errno_of end.Ok = None
errno_of end.Nack = Some errno.Enxio
errno_of end.Slow = Some errno.Etimedout
errno_of end.Refused = Some errno.Eio
errno_of end.Proto = Some errno.Eproto
errno_of (end.Cut q) = Some errno.Eremoteio

abbrev pub is_plain : TransferKind → Bool
is_plain transfer_kind.Plain = true
is_plain transfer_kind.Smbus = false

abbrev pub is_smbus_only : BoardView → ℕ → Bool
is_smbus_only b root = option_map_or (λ r. r.smbus_only) (slice_get b.roots root) false

-- the address of one of its messages is busy
abbrev pub is_any_busy : BoardView → TransferView → Bool
is_any_busy b t = list_any (λ m. is_busy (grant_of b t.bus m.addr t.force)) t.msgs

-- a transfer is refused without any step on the bus where the board lacks its bus, where it is plain and its root
-- offers SMBus calls alone, or where the address of one of its messages is busy
abbrev pub refusal : BoardView → TransferView → Option Errno
refusal b t =
    if not (nat_lt t.bus (buses b)) then Some errno.Enodev
    else if is_plain t.kind && is_smbus_only b (root_of b t.bus) then Some errno.Eopnotsupp
    else if is_any_busy b t then Some errno.Ebusy
    else None

-- a transfer that went through: what its reads gave, where one of its messages reads
abbrev pub done_with : TransferView → List ℕ → Reply
done_with t got = if list_any is_read t.msgs then reply.Read got else reply.Done

abbrev pub or_done : Option Errno → TransferView → List ℕ → Reply
or_done None t got = done_with t got
or_done (Some e) t got = reply.Err e

-- the place of failure in message i
abbrev pub cut_in : Cut → ℕ → Option ℕ
cut_in cut_at.No i = None
cut_in cut_at.Way i = None
cut_in (cut_at.At m q) i = if m == i then Some q else None

abbrev pub is_way_cut : Cut → Bool
is_way_cut cut_at.Way = true
is_way_cut cut_at.No = false
is_way_cut (cut_at.At m q) = false

abbrev pub way_errno : Way → Option Errno
way_errno way.Clear = None
way_errno (way.NoAck m) = Some errno.Enxio
way_errno (way.Held m) = Some errno.Etimedout

-- why no message of a transfer is sent: it is refused, a port call failed on the way, or the way is barred
abbrev pub first_of : Option Errno → Option Errno → Option Errno
first_of None second = second
first_of (Some e) second = Some e

abbrev pub barred : BoardView → TransferView → Cut → Option Errno
barred b t cut =
    first_of (refusal b t) (first_of (if is_way_cut cut then Some errno.Eremoteio else None) (way_errno (way_of b t.bus)))

pub record FlatTold : Type 0 where
  pub reply : Reply
  pub states : List TargetState

abbrev pub flat_told : TransferView → AllTold FlatListener → FlatTold
flat_told t all = record { reply = or_done (errno_of all.end) t all.bytes; states = all.now.states }

abbrev pub flat_messages : BoardView → List TargetState → TransferView → Cut → AllTold FlatListener
flat_messages b states t cut =
    talk_all (flat_listener (granted_on b t.bus t.force)) (block_limit b) (idle states) (messages_of t) 0 (cut_in cut) []

abbrev pub flat_by : BoardView → List TargetState → TransferView → Cut → Option Errno → FlatTold
flat_by b states t cut (Some e) = record { reply = reply.Err e; states = states }
flat_by b states t cut None = flat_told t (flat_messages b states t cut)

-- one transfer in the flat world: its reply, and the devices that it leaves
abbrev pub flat : BoardView → List TargetState → TransferView → Cut → FlatTold
flat b states t cut = flat_by b states t cut (barred b t cut)

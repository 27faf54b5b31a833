-- Where all stand behind a step of the caller at a place.
use Rattle.std.specs.Prelude.{ℕ, Bool, List, [], ◌∷◌, set}
use Rattle.i2c_base.specs.declared.ids.LockId.{LockId}
use Rattle.i2c_base.specs.declared.entry.Entry.{Entry}
use Rattle.i2c_base.specs.declared.entry.Entry.TheVariants as entry
use Rattle.i2c_base.specs.declared.reply.Reply.{Reply}
use Rattle.i2c_base.specs.declared.reply.Cut.TheVariants as cut_at
use Rattle.i2c_base.specs.Transfer.{TransferView}
use Rattle.bus_spec.specs.Walk.{Job, Passed, Sent, Lined, WalkTree, line_mux, line_level}
use Rattle.bus_spec.specs.Grammar.{rest_of}
use Rattle.bus_spec.specs.Past.{got_after}
use Rattle.bus_spec.specs.Readings.{cut_told, message_cut}
use Rattle.bus_message.specs.declared.message.MsgResult.{MsgResult}
use Rattle.core_laws.specs.Core.{Place, Whole}
use Rattle.mux_plan.specs.declared.task.NextMsg.{NextMsg}
use Rattle.core_laws.specs.Steps.{behind_of}

-- this is there now, and holds and owes so much
abbrev pub with_place : Whole → ℕ → Place → List LockId → ℕ → Whole
with_place whole place new ls n = record whole {
  places = set whole.places place new;
  held = set whole.held place ls;
  owes = set whole.owes place n;
}

-- a lock was taken or freed
abbrev pub passed : Whole → Place → Place
passed whole p = record p { tree = behind_of whole.locks p.tree Passed; cut = cut_at.No }

-- the walk has ended: the caller was handed its replies, and its next walk begins
abbrev pub begun_with : Place → List Reply → TransferView → WalkTree → Place
begun_with p replies t w = record p { taken = replies; owed = []; transfer = t; tree = w; sent = 0; got = []; cut = cut_at.No }

-- the entry of a message of the caller of this number, and that of a line step there
abbrev pub message_entry : ℕ → NextMsg → List ℕ → MsgResult → Entry
message_entry number next bytes msg =
    entry.Message number next.bus next.purpose next.part next.parts msg.addr msg.reading bytes msg.heard msg.end

abbrev pub line_entry : Place → Job → Bool → Entry
line_entry p job failed = entry.Line p.number (line_mux job) (line_level job) failed

-- a message was sent, with which so many of the caller's went through
abbrev pub spoken : Whole → Place → Job → NextMsg → List ℕ → MsgResult → ℕ → Place
spoken whole p job next bytes msg gone =
    record p {
      tree = behind_of whole.locks p.tree (Sent msg.end bytes);
      sent = gone;
      got = got_after job msg.reading bytes p.got;
      cut = message_cut next.purpose next.part msg.end;
    }

-- a line step was done
abbrev pub switched : Whole → Place → Job → Bool → Place
switched whole p job failed = record p { tree = behind_of whole.locks p.tree (Lined failed); cut = cut_told (line_entry p job failed) }

-- and it has settled: its reply is owed
abbrev pub settled_with : Place → Reply → Place
settled_with p reply = record p { tree = rest_of p.tree Passed; owed = reply ∷ []; got = []; cut = cut_at.No }

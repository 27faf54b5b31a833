-- What a message over a port tells, its conversation with the world of the root, and where that stands while it is had.
use Rattle.std.specs.Prelude.{◌≡◌, ◌⊎◌, ℕ, ◌+◌, ◌<◌, ◌≤◌, Bool, true, false, IsTrue, List, ◌++◌, Option, length, reverse, MatchBool}
use Rattle.i2c_base.specs.Fitting.{count_of}
use Rattle.i2c_base.specs.Limits.{LARGEST_BLOCK, MOST_LENGTH}
use Rattle.i2c_base.specs.Phases.{MayStart}
use Rattle.i2c_base.specs.declared.port.Phase.TheVariants.{Idle}
use Rattle.i2c_base.specs.declared.port.PortCall.{PortCall}
use Rattle.i2c_base.specs.declared.port.PortCall.TheVariants as call
use Rattle.i2c_base.specs.declared.entry.End.{End}
use Rattle.i2c_base.specs.declared.event.Answer.{Answer}
use Rattle.i2c_base.specs.declared.entry.End.TheVariants as end
use Rattle.i2c_spec.specs.Messages.{MessageView, bytes_most}
use Rattle.i2c_spec.specs.World.{World}
use Rattle.i2c_spec.specs.Conversation.{Said, TalkTold, world_listener, with_byte, call_then, ended, puts, gets, gets_counted, data_of, by_answer}
use Rattle.bus_spec.specs.Past.{cut_of}
use Rattle.ports.specs.Causes.{Rose}
use Rattle.ports.specs.declared.port.Port.{Ghosts as PortGhosts}

-- a conversation is what was told: its bytes and its end, the world that it leaves, and its calls at the log's end
pub record TellsTalk (talk : TalkTold World) (got : List ℕ) (ends : End) (world : World) (log_old log_new : List PortCall) : Type 0 where
  pub bytes : got ≡ talk.bytes
  pub end : ends ≡ talk.end
  pub now : world ≡ talk.now
  pub log : log_new ≡ log_old ++ reverse talk.calls

-- what a read gives that went through: a counted one its count, from 1 to the limit, so many bytes, and those that it
-- asks for beside them; a plain one as many as it asks for
abbrev pub Gives : ℕ → MessageView → List ℕ → Type 0
Gives limit m bytes =
    MatchBool m.counted
    ((1 ≤ count_of bytes) × (count_of bytes ≤ limit) × (length bytes ≡ m.len + count_of bytes))
    (length bytes ≡ m.len)

-- the bytes of a message that went through: a read gives all that it asks for, a write has put all of its own
pub record HasMoved (limit : ℕ) (m : MessageView) (bytes : List ℕ) (e : End) : Type 0 where
  pub read : e ≡ end.Ok → m.reading ≡ true → Gives limit m bytes
  pub written : e ≡ end.Ok → m.reading ≡ false → bytes ≡ m.bytes

-- so far it is this: its calls, on top of a log that was there before, its bytes, and the world
pub record Stands (said : Said World) (before : List PortCall) (count : ℕ) (got : List ℕ) (world : World)
    (log_now : List PortCall) : Type 0 where
  pub log : log_now ≡ before ++ reverse said.calls
  pub calls : count ≡ length said.calls
  pub bytes : got ≡ said.bytes
  pub now : world ≡ said.now

-- a whole conversation has come to where this is left of it
pub record Reaches (whole : TalkTold World) (left : Said World → TalkTold World) (before : List PortCall) (count : ℕ) (got : List ℕ)
    (world : World) (log_now : List PortCall) : Type 0 where
  pub said : Said World
  pub stands : Stands said before count got world log_now
  pub same : whole ≡ left said

-- WHAT IS LEFT of a message, by where a call fails: its end, bytes to put, bytes to get, a count and what it counts, all
-- its data, and what follows a start
abbrev pub ending : Bool → End → Option ℕ → Said World → TalkTold World
ending stops e cut s = ended world_listener cut stops s e

abbrev pub putting : Bool → List ℕ → Option ℕ → Said World → TalkTold World
putting last bytes cut = puts world_listener cut last bytes

abbrev pub getting : Bool → ℕ → Option ℕ → Said World → TalkTold World
getting last len cut = gets world_listener cut last len

abbrev pub counting : Bool → ℕ → ℕ → Option ℕ → Said World → TalkTold World
counting last limit len cut = gets_counted world_listener cut last limit len

abbrev pub moving : Bool → ℕ → MessageView → Option ℕ → Said World → TalkTold World
moving last limit m cut = data_of world_listener cut last limit m

abbrev pub answered : Bool → ℕ → MessageView → Answer → Option ℕ → Said World → TalkTold World
answered last limit m a cut = by_answer world_listener cut last limit m a

-- a call failed: so many were made before it, and the port tells why
pub record HasFailed (least most faults_old faults_new : ℕ) (e : End) : Type 0 where
  pub place : (q : ℕ) → e ≡ end.Cut q → (least ≤ q) × (q ≤ most)
  pub cause : (q : ℕ) → e ≡ end.Cut q → Rose faults_old faults_new

-- A MESSAGE IN PROGRESS went on to its end on a port: this was left of it, after so many calls and these bytes, and at
-- most so many bytes were to come. Another may start after it, and the port is idle unless it went through and isn't the
-- last of its transfer.
pub record MessageEnded {P : Type 0} (p : PortGhosts P) (last : Bool) (left : Option ℕ → Said World → TalkTold World) (calls most : ℕ)
    (got : List ℕ) (old new : P) (bytes : List ℕ) (e : End) : Type 0 where
  pub start : MayStart (p.phase new)
  pub idle : (p.phase new ≡ Idle) ⊎ ((last ≡ false) × (e ≡ end.Ok))
  pub grows : IsTrue p.tells → length (p.log new) ≤ length (p.log old) + (most + 1)
  pub later : p.faults old ≤ p.faults new
  pub setup : p.setup new ≡ p.setup old
  pub few : length bytes ≤ length got + most
  pub fails : HasFailed calls (calls + most) (p.faults old) (p.faults new) e
  pub told : IsTrue p.tells → (whole : TalkTold World) (before : List PortCall)
      → Reaches whole (left (cut_of e)) before calls got (p.world old) (p.log old)
      → TellsTalk whole bytes e (p.world new) before (p.log new)

-- a message that may be sent under this limit of counts: a read asks for something, a write has no more bytes than its
-- length tells, and it moves at most 512
pub record IsSendable (limit : ℕ) (m : MessageView) : Type 0 where
  pub low : 1 ≤ limit
  pub high : limit ≤ LARGEST_BLOCK
  pub some : m.reading ≡ true → 0 < m.len
  pub written : length m.bytes ≤ m.len
  pub short : bytes_most limit m ≤ MOST_LENGTH

-- what is left behind a count of 0 or above the limit: one byte more, and a stop
abbrev pub over_limit : Option ℕ → Said World → TalkTold World
over_limit cut t =
    call_then world_listener cut t (call.Get false)
    (λ u. ended world_listener cut true (with_byte u (world_listener.gives t.now)) end.Proto)

-- Ports as plain data, and what a message and a line step leave of one.
use Rattle.std.specs.Prelude.{◌≡◌, ◌⊎◌, ℕ, ◌+◌, ◌<◌, ◌≤◌, Bool, true, false, IsTrue, List, [], ◌∷◌, ◌++◌, length, map, Option, None, if◌then◌else◌}
use Rattle.i2c_base.specs.declared.ids.Node.{Node}
use Rattle.i2c_base.specs.declared.entry.End.{End}
use Rattle.i2c_base.specs.declared.entry.End.TheVariants as end
use Rattle.i2c_base.specs.declared.port.Phase.{Phase}
use Rattle.i2c_base.specs.declared.port.Phase.TheVariants.{Idle}
use Rattle.i2c_base.specs.declared.port.PortCall.{PortCall}
use Rattle.i2c_base.specs.declared.port.PortCall.TheVariants as call
use Rattle.i2c_base.specs.Limits.{MOST_CALLS}
use Rattle.i2c_base.specs.Phases.{MayStart}
use Rattle.i2c_spec.specs.Conversation.{world_listener, talk}
use Rattle.i2c_spec.specs.Messages.{MessageView, bytes_most}
use Rattle.i2c_spec.specs.World.{World, after, answer, has_heard}
use Rattle.bus_spec.specs.Legal.{start_failed}
use Rattle.bus_spec.specs.Past.{cut_of}
use Rattle.ports.specs.declared.port.Port.{Ghosts as PortGhosts}
use Rattle.ports.specs.LineCalls.{HasLine}
use Rattle.bus_message.specs.Talks.{HasMoved, IsSendable, TellsTalk}
use Rattle.bus_message.specs.declared.message.MsgResult.{MsgResult}

-- a port by its root: how it was set up, what it has come to and what was called, the oldest first
pub record RootPort : Type 0 where
  pub root : ℕ
  pub setup : List ℕ
  pub world : World
  pub log : List PortCall
  pub phase : Phase

-- .. what its ghost members tell of it
abbrev pub root_port : {P : Type 0} → PortGhosts P → ℕ × P → RootPort
root_port p x = record { root = x.0; setup = p.setup x.1; world = p.world x.1; log = p.log x.1; phase = p.phase x.1 }

abbrev pub root_ports : {P : Type 0} → PortGhosts P → List (ℕ × P) → List RootPort
root_ports p xs = map (root_port p) xs

-- the log of a port that tells has room for so many calls more
abbrev pub HasRoom : {P : Type 0} → PortGhosts P → P → ℕ → Type 0
HasRoom p x more = IsTrue p.tells → length (p.log x) + more ≤ MOST_CALLS

-- a message that may be sent was started, and no byte of it went yet
pub record IsStarted {P : Type 0} (p : PortGhosts P) (limit : ℕ) (m : MessageView) (x : P) (bytes : List ℕ) : Type 0 where
  pub sendable : IsSendable limit m
  pub none : bytes ≡ []
  pub room : HasRoom p x (bytes_most limit m + 1)

-- what any port keeps over a message of at most so many bytes: after it another may start, and the port is idle
-- unless it went through and isn't the last of its transfer
pub record Spoke (tells last : Bool) (most : ℕ) (bytes : List ℕ) (e : End) (old new : RootPort) : Type 0 where
  pub root : new.root ≡ old.root
  pub setup : new.setup ≡ old.setup
  pub start : MayStart new.phase
  pub idle : (new.phase ≡ Idle) ⊎ ((last ≡ false) × (e ≡ end.Ok))
  pub grows : IsTrue tells → length new.log ≤ length old.log + (most + 2)
  pub few : length bytes ≤ most

-- a message was sent on a port: what any port keeps, what one that tells shows, and who is told to have heard it
pub record MessageSent (tells : Bool) (limit : ℕ) (m : MessageView) (hearer : Option Node) (last : Bool) (old new : RootPort)
    (bytes : List ℕ) (r : MsgResult) : Type 0 where
  pub addr : r.addr ≡ m.addr
  pub reading : r.reading ≡ m.reading
  pub spoke : Spoke tells last (bytes_most limit m) bytes r.end old new
  pub moved : HasMoved limit m bytes r.end
  pub told : IsTrue tells → TellsTalk (talk world_listener limit old.world m last (cut_of r.end)) bytes r.end new.world old.log new.log
  pub acked : Bool
  pub named : r.heard ≡ (if acked then hearer else None)
  pub failed : start_failed r.end ≡ true → acked ≡ false
  pub answered : IsTrue tells → start_failed r.end ≡ false → acked ≡ has_heard (answer old.world m.addr m.reading)

-- the call of a line step
abbrev pub line_step : ℕ → ℕ → Bool → PortCall
line_step mux level failed = if failed then call.Fault else call.Line mux level

-- a line step may be done on a port
pub record MayShift (tells : Bool) (mux level : ℕ) (x : RootPort) : Type 0 where
  pub idle : x.phase ≡ Idle
  pub has : IsTrue tells → HasLine x.world mux level
  pub room : IsTrue tells → length x.log < MOST_CALLS

-- a line step was done there
pub record Shifted (tells : Bool) (mux level : ℕ) (failed : Bool) (old new : RootPort) : Type 0 where
  pub root : new.root ≡ old.root
  pub setup : new.setup ≡ old.setup
  pub idle : new.phase ≡ Idle
  pub world : IsTrue tells → new.world ≡ after old.world (line_step mux level failed)
  pub log : IsTrue tells → new.log ≡ old.log ++ line_step mux level failed ∷ []

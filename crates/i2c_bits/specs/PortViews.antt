-- What contracts see of a port over two lines.
use Rattle.std.specs.Prelude.{⊤, ℕ, ◌≡◌, Bool, true, false, List, IsTrue, Result, Ok, Err}
use Rattle.i2c_base.specs.declared.port.Phase.{Phase}
use Rattle.i2c_base.specs.declared.port.Phase.TheVariants.{Idle, Writing, PutRefused, Reading, LastRead, Unanswered, Slow}
use Rattle.i2c_base.specs.declared.port.PortCall.{PortCall}
use Rattle.i2c_spec.specs.World.{World}
use Rattle.ports.specs.Causes.{counted}
use Rattle.wire_spec.specs.declared.mode.Mode.TheVariants.{Out, In, Give}
use Rattle.wire_spec.specs.Bus.{Bus, Seen}
use Rattle.wire_spec.specs.Sites.{NodeState}
use Rattle.i2c_bits.specs.Wiring.{Rooted, Wire, AreLetGo}
use Rattle.i2c_bits.specs.Stands.{StandsIn, IsFree, IsLate, world_at}

-- its world and its log; what the wires have come to since the last stop; its faults; what the pulls and looks have come to;
-- and what told lines have shown
pub record BitPortView : Type 0 where
  pub world : World
  pub log : List PortCall
  pub phase : Phase
  pub faults : ℕ
  pub wire : Wire
  pub seen : Seen

-- a message is in progress
abbrev pub is_busy : Phase → Bool
is_busy Idle = false
is_busy phase = true

-- the port over these lines, with what it has come to
abbrev pub port_of : Rooted → Bus NodeState → Wire → List PortCall → Phase → ℕ → BitPortView
port_of k bus wire log phase faults =
    record { world = world_at k (is_busy phase) bus; log = log; phase = phase; faults = faults; wire = wire; seen = bus.seen }

-- the last start was too slow
abbrev pub is_late : Phase → Bool
is_late Slow = true
is_late phase = false

-- how the lines stand in each phase
abbrev pub Stands : Phase → Rooted → Bus NodeState → Type 0
Stands Idle k w = IsFree k w
Stands Writing k w = StandsIn k (In false 8 0) w
Stands PutRefused k w = StandsIn k (In false 8 0) w
Stands Reading k w = StandsIn k (Give 8) w
Stands LastRead k w = StandsIn k Out w
Stands Unanswered k w = StandsIn k Out w
Stands Slow k w = IsLate k w

-- between messages the last pull let both lines go
abbrev pub LetGoBy : Phase → Wire → Type 0
LetGoBy Idle w = AreLetGo w
LetGoBy phase w = ⊤

-- told lines stand as the phase says
pub record IsBitPort (tells : Bool) (phase : Phase) (k : Rooted) (bus : Bus NodeState) (wire : Wire) : Type 0 where
  pub stands : IsTrue tells → Stands phase k bus
  pub let_go : LetGoBy phase wire

-- its count of faults rises
pub record Faulted (tells : Bool) (old new : ℕ) : Type 0 where
  pub faults : new ≡ counted old
  pub untold : IsTrue tells → ⊥

-- in a call that fails, and in no other; over lines that tell no call fails
abbrev pub FaultsTell : {A E : Type 0} → Bool → Result A E → ℕ → ℕ → Type 0
FaultsTell tells (Ok a) old new = new ≡ old
FaultsTell tells (Err e) old new = Faulted tells old new

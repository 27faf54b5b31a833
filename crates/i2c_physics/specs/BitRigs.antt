-- The rig of two wires: its ports as they are opened, and as they are given back.
use Rattle.std.specs.Prelude.{◌≡◌, ◌≤◌, ℕ, List, [], length, min, sum_by}
use Rattle.i2c_base.specs.declared.port.Phase.TheVariants.{Idle}
use Rattle.i2c_base.specs.declared.port.PortCall.{PortCall}
use Rattle.i2c_base.specs.Board.{BoardView}
use Rattle.ports.specs.Causes.{MOST}
use Rattle.wire_spec.specs.Bus.{Seen, edges_in}
use Rattle.i2c_bits.specs.PortViews.{BitPortView}
use Rattle.i2c_physics.specs.Shows.{ShowsCalls}
use Rattle.i2c_physics.specs.SimPorts.{PortView, opening_port}
use Rattle.i2c_physics.specs.declared.sim_rig.SimRig.{SimRig}

-- of a port on two wires, what is seen of every port of a rig, its faults, and what its wires have shown
pub record WiredView : Type 0 where
  pub port : PortView
  pub faults : ℕ
  pub seen : Seen

abbrev pub wired : BitPortView → WiredView
wired p = record { port = record { world = p.world; log = p.log; phase = p.phase }; faults = p.faults; seen = p.seen }

-- such a port as it is opened: no call has failed, and nothing was seen on its wires
abbrev pub opening_wired : BoardView → ℕ → WiredView
opening_wired b root = record { port = opening_port b root; faults = 0; seen = [] }

-- no call on it has failed, and its wires have shown what its calls show
pub record IsWirePort (p : BitPortView) : Type 0 where
  pub faults : p.faults ≡ 0
  pub shows : ShowsCalls p

-- what is left of a port that was taken apart: no call is kept
abbrev pub parted : BitPortView → PortView
parted p = record { world = p.world; log = []; phase = Idle }

-- how often SCL rose on all of them, up to 2^64 - 1
abbrev pub edges_of : List BitPortView → ℕ
edges_of ps = min (sum_by (λ p. edges_in p.seen) ps) MOST

-- what the rig has in common with the simulated one, the calls on the ports that were last given back, and how often SCL rose on
-- them
pub record BitRigView : Type 0 where
  pub sim : SimRig
  pub logs : List (List PortCall)
  pub edges : ℕ

-- there is room for a port of each root
pub record HasRoomFor (b : BoardView) (ports room : ℕ) : Type 0 where
  pub none : ports ≡ 0
  pub enough : length b.roots ≤ room

-- What the rig keeps of the ports that are given back.
use Rattle.std.specs.Prelude.{◌≡◌, ℕ, zero, suc, ◌+◌, ◌≤◌, true, List, [], ◌∷◌, ◌++◌, length, map, Option, Some, None, IsSome, slice_get, option_to_list, replicate}
use Rattle.i2c_base.specs.declared.port.PortCall.{PortCall}
use Rattle.i2c_base.specs.Board.{BoardView}
use Rattle.i2c_spec.specs.Plain.{IsPlainBoard}
use Rattle.i2c_spec.specs.Tree.{root_of}
use Rattle.i2c_spec.specs.Targets.{TargetState}
use Rattle.i2c_spec.specs.World.{World}
use Rattle.bus_lines.specs.Owned.{own_device, owns, without}
use Rattle.i2c_physics.specs.declared.unplug.Unplugged.{Unplugged}

-- device k as the world of its root has it, where there is such a world and it has the device
abbrev pub device_of : Option World → ℕ → Option TargetState
device_of None k = None
device_of (Some w) k = own_device w k

abbrev pub state_at : List World → ℕ → ℕ → Option TargetState
state_at ws home k = device_of (slice_get ws home) k

-- the devices on these roots, the first being number k, as far as they are there
abbrev pub states_from : ℕ → List ℕ → List World → List TargetState
states_from k [] ws = []
states_from k (home ∷ homes) ws = option_to_list (state_at ws home k) ++ states_from (k + 1) homes ws

-- these worlds once device k was taken out of that of this root, where there is such a world
abbrev pub taken_out : List World → ℕ → ℕ → List World
taken_out [] home k = []
taken_out (w ∷ ws) zero k = without w k ∷ ws
taken_out (w ∷ ws) (suc home) k = w ∷ taken_out ws home k

-- device k is there, where it is of the root of its world
abbrev pub IsThere : List World → ℕ → ℕ → Type 0
IsThere ws home k = (w : World) → slice_get ws home ≡ Some w → owns w k ≡ true → IsSome (state_at ws home k)

-- no board: the one of a rig that was never plugged
abbrev pub no_board : BoardView
no_board = record { version = 0; roots = []; muxes = []; devices = [] }

-- no faults were counted, at any of so many ports
abbrev pub none_of : ℕ → List ℕ
none_of n = replicate n 0

-- so many ports that nothing was set up of
abbrev pub unset : ℕ → List (List ℕ)
unset n = replicate n []

-- what a rig tells after an unplug, and before it
abbrev pub kept_states : Option Unplugged → List TargetState
kept_states None = []
kept_states (Some k) = k.states.items

abbrev pub kept_logs : Option Unplugged → List (List PortCall)
kept_logs None = []
kept_logs (Some k) = map (λ log. log.items) k.logs.items

-- the room that a plug takes for the devices and the logs of an unplug; the root of each device's bus
pub record IsRoom (b : BoardView) (homes : List ℕ) (states logs state_room log_room : ℕ) : Type 0 where
  pub plain : IsPlainBoard b
  pub homes_are : homes ≡ map (λ d. root_of b d.bus) b.devices
  pub no_states : states ≡ 0
  pub no_logs : logs ≡ 0
  pub for_states : length homes ≤ state_room
  pub for_logs : length b.roots ≤ log_room

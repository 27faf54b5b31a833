-- Ports of which some calls fail, by their numbers, the first call on a port being 0.
use Rattle.std.specs.Prelude.{◌≡◌, ℕ, ◌==◌, ◌<◌, Bool, true, false, List, [], length, map, Option, Some, Result, Ok, Err, slice_get, get_or, if◌then◌else◌}
use Rattle.std.specs.List.{count_by, filter}
use Rattle.std.specs.Option.{option_map_or}
use Rattle.i2c_base.specs.declared.port.Phase.{Phase}
use Rattle.i2c_base.specs.declared.port.Phase.TheVariants.{Idle}
use Rattle.i2c_base.specs.declared.port.PortCall.{PortCall}
use Rattle.i2c_base.specs.declared.port.PortCall.TheVariants as call
use Rattle.i2c_base.specs.Board.{BoardView}
use Rattle.i2c_base.specs.Limits.{MOST_CALLS}
use Rattle.i2c_outside.specs.Sinks.{is_listed}
use Rattle.ports.specs.declared.failed.Failed.{Failed}
use Rattle.i2c_physics.specs.SimPorts.{PortView, opening_port, called}

pub record FailView : Type 0 where
  pub port : PortView
  -- the numbers of the calls that fail
  pub fails : List ℕ

-- how many calls have failed: the log has a fault for each of them
abbrev pub is_failed_call : PortCall → Bool
is_failed_call (call.Start a reading) = false
is_failed_call (call.Put byte) = false
is_failed_call (call.Get ack) = false
is_failed_call call.Stop = false
is_failed_call (call.Line m level) = false
is_failed_call call.Fault = true

abbrev pub failed_calls_in : List PortCall → ℕ
failed_calls_in log = count_by is_failed_call log

-- each number that a log has room for is marked where it is listed, and nowhere else
abbrev pub AreMarked : (fails : List ℕ) → (marks : List Bool) → Type 0
AreMarked fails marks = (n : ℕ) → n < MOST_CALLS → get_or marks n false ≡ is_listed fails n

-- a log has a fault just at the numbers that are listed, of those below its length
abbrev pub FailsJustAt : (fails : List ℕ) → (log : List PortCall) → Type 0
FailsJustAt fails log = (n : ℕ) (c : PortCall) → slice_get log n ≡ Some c → is_failed_call c ≡ is_listed fails n

-- the next call fails, where its number is listed
abbrev pub fails_next : FailView → Bool
fails_next p = is_listed p.fails (length p.port.log)

-- what the next call answers, where one that doesn't fail answers x
abbrev pub said : {T : Type 0} → FailView → T → Result T Failed
said p x = if fails_next p then Err (record {}) else Ok x

-- the port after it: a call that fails acts as a stop, and is a fault of the log
abbrev pub after_next : FailView → PortCall → Phase → FailView
after_next p c phase =
    record p { port = if fails_next p then called p.port call.Fault Idle else called p.port c phase }

-- the numbers of the calls that fail on a root, of those that are listed by root
abbrev pub fails_on : List (ℕ × ℕ) → ℕ → List ℕ
fails_on calls root = map (λ c. c.1) (filter (λ c. c.0 == root) calls)

-- such a port as it is opened
abbrev pub opening_fails : BoardView → List (ℕ × ℕ) → ℕ → FailView
opening_fails b calls root = record { port = opening_port b root; fails = fails_on calls root }

-- on each of these ports a call failed just where its number is listed for it
abbrev pub HaveFailedJustAt : (fails : List (List ℕ)) → (logs : List (List PortCall)) → Type 0
HaveFailedJustAt fails logs =
    (k : ℕ) (numbers : List ℕ) (log : List PortCall) → slice_get fails k ≡ Some numbers → slice_get logs k ≡ Some log
    → FailsJustAt numbers log

-- of the ports that a rig was given back: the numbers of the calls that fail on each, the calls, and how many failed
abbrev pub fails_given : Option (List FailView) → List (List ℕ)
fails_given given = option_map_or (map (λ p. p.fails)) given []

abbrev pub logs_given : Option (List FailView) → List (List PortCall)
logs_given given = option_map_or (map (λ p. p.port.log)) given []

abbrev pub counts_given : Option (List FailView) → List ℕ
counts_given given = option_map_or (map (λ p. failed_calls_in p.port.log)) given []

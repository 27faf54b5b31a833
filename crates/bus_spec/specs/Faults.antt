-- How many calls of a port failed, by its log.
use Rattle.std.specs.Prelude.{ℕ, ◌+◌, Bool, true, false, if◌then◌else◌, List, [], ◌∷◌}
use Rattle.i2c_base.specs.declared.port.PortCall.{PortCall}
use Rattle.i2c_base.specs.declared.port.PortCall.TheVariants as call

abbrev pub count_if : Bool → ℕ
count_if b = if b then 1 else 0

-- the calls that failed
abbrev pub is_fault : PortCall → Bool
is_fault call.Fault = true
is_fault c = false

abbrev pub faults_in : List PortCall → ℕ
faults_in [] = 0
faults_in (c ∷ cs) = count_if (is_fault c) + faults_in cs

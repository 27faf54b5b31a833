use Rattle.i2c_physics.proofs.Cited.{◌≡◌, ℕ, ◌<◌, true, take}
use Rattle.i2c_base.specs.Limits.{MOST_CALLS}
use Rattle.i2c_outside.specs.Sinks.{is_listed}
use Rattle.i2c_physics.proofs.fail_port.marks_for.Given as goal

abbrev pub invariant-loop-number : goal.invariant-loop-number
invariant-loop-number l = (n : ℕ) → n < MOST_CALLS → is_listed (take l.number-index l.numbers) n ≡ true → n < l.count

use Rattle.i2c_physics.proofs.Cited.{◌≡◌, ℕ, ◌<◌, false, take, length, get_or}
use Rattle.i2c_outside.specs.Sinks.{is_listed}
use Rattle.i2c_physics.proofs.fail_port.marks_of.Given as goal

abbrev pub invariant-loop-number : goal.invariant-loop-number
invariant-loop-number l =
    record {
      long : length l.marks.items ≡ l.count;
      marked : (n : ℕ) → n < l.count → get_or l.marks.items n false ≡ is_listed (take l.number-index l.numbers) n;
    }

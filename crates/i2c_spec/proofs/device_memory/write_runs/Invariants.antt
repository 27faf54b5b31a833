-- What is written and what is left are the whole.
use Rattle.std.proofs.Common.{◌≡◌, drop, length}
use Rattle.i2c_spec.specs.Targets.RegsDevice.{write_runs}
use Rattle.i2c_spec.proofs.device_memory.write_runs.Given as goal

abbrev pub invariant-loop-run : goal.invariant-loop-run
invariant-loop-run l = record {
  written : write_runs l.memory (drop l.run-index l.runs) ≡ write_runs l.fn.memory l.runs;
  same : length l.memory ≡ length l.fn.memory;
}

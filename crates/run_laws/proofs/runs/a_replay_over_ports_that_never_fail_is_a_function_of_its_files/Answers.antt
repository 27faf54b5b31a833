use Rattle.run_laws.proofs.Faultless.{none-alike}
use Rattle.run_laws.proofs.runs.a_replay_over_ports_that_never_fail_is_a_function_of_its_files.Goals as goal

pub returns : goal.returns
returns c = record {
  report = λ file names schedule x y logs others states ends counts rises is one two none never.
      c.a_replay_has_one_report.ensures.report file names schedule x y logs others states ends counts rises is one two
      (none-alike _ _ _ _ _ _ _ _ _ _ _ _ _ _ one.run.is_run two.run.is_run none never);
  summary = λ plan x y logs others states ends counts rises one two none never.
      c.a_replay_has_one_report.ensures.summary plan x y logs others states ends counts rises one two
      (none-alike _ _ _ _ _ _ _ _ _ _ _ _ _ _ one.is_run two.is_run none never);
}

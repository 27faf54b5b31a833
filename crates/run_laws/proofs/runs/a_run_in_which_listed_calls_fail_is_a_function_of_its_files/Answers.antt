use Rattle.run_laws.proofs.Listed.{listed-alike, two-listed-runs}
use Rattle.i2c_top.specs.Runs.{report_by}
use Rattle.run_laws.proofs.runs.a_run_in_which_listed_calls_fail_is_a_function_of_its_files.Goals as goal

pub returns : goal.returns
returns c = λ file names x y logs others states ends counts rises one two failed failed_too.
    let runs = two-listed-runs file names x y logs others states ends counts rises one two in
    c.a_replay_has_one_report.ensures.run (report_by runs.board runs.texts) runs.board runs.texts runs.words x y logs others states ends counts rises
    runs.one runs.two (listed-alike file names logs others failed failed_too)

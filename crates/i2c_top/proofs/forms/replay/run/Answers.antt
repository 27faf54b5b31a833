use Rattle.i2c_top.proofs.Cited.{IsReplayAnswer, names_told}
use Rattle.i2c_top.proofs.ReplayLemmas.{files_passed_on, free_run_done, run_failed}
use Rattle.i2c_top.proofs.forms.replay.run.Goals as goal

pub returns-in_err-board-clause-refused : goal.returns-in_err-board-clause-refused
returns-in_err-board-clause-refused g c =
    files_passed_on (names_told c.args.names.now) IsReplayAnswer _ _ _ c.from_residual.result c.in_err-board.field-0.0
    c.from_residual.ensures.1 c.read_files.ensures.kept c.in_err-board.ensures.unreached c.in_err-board.ensures.refused

pub returns-clause-done : goal.returns-clause-done
returns-clause-done g c =
    let read = c.in_ok-board.ensures in
    free_run_done _ _ _ _ _ _ _ _ read.some read.read read.cheap c.read_files.ensures.kept c.run_at_once.result c.requires.free
    c.run_at_once.ensures.rig c.run_at_once.ensures.run

pub returns-clause-refused : goal.returns-clause-refused
returns-clause-refused g c =
    let read = c.in_ok-board.ensures in
    run_failed IsReplayAnswer read.read read.cheap c.read_files.ensures.kept c.run_at_once.ensures.rig

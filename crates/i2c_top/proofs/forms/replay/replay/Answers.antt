use Rattle.i2c_top.proofs.Cited.{◌<◌, ◌∙◌, List, ℕ, All, length, sym, subst, option_map, IsReplayAnswer, names_told}
use Rattle.i2c_top.proofs.ReplayLemmas.{files_passed_on, scheduled_run_done, run_failed, named_all}
use Rattle.i2c_top.proofs.forms.replay.replay.Goals as goal

pub returns-in_err-board-clause-refused : goal.returns-in_err-board-clause-refused
returns-in_err-board-clause-refused g c =
    files_passed_on (names_told c.args.names.now) IsReplayAnswer _ _ _ c.from_residual.result c.in_err-board.field-0.0
    c.from_residual.ensures.1 c.read_files.ensures.kept c.in_err-board.ensures.unreached c.in_err-board.ensures.refused

pub run_scripts-requires-clause-named : goal.run_scripts-requires-clause-named
run_scripts-requires-clause-named g c κs within =
    let f = c.in_ok-board.field-0 in
    let words = option_map (λ v. v.items) f.schedule in
    subst (λ (ws : List ℕ). All (λ n. n < length f.scripts.items) ws) (sym (c.as_slice.ensures.value ∙ c.listed-words.ensures))
    (named_all (length f.scripts.items) words c.in_ok-board.ensures.named)

pub returns-clause-done : goal.returns-clause-done
returns-clause-done g c =
    let read = c.in_ok-board.ensures in
    scheduled_run_done _ _ _ _ _ _ _ _ read.some read.read read.cheap c.read_files.ensures.kept c.run_scripts.result c.requires.scheduled
    (c.as_slice.ensures.value ∙ c.listed-words.ensures) c.run_scripts.ensures.rig c.run_scripts.ensures.run

pub returns-clause-refused : goal.returns-clause-refused
returns-clause-refused g c =
    let read = c.in_ok-board.ensures in
    run_failed IsReplayAnswer read.read read.cheap c.read_files.ensures.kept c.run_scripts.ensures.rig

use Rattle.std.proofs.Common.{ℕ, ◌<◌, List, sym, subst}
use Rattle.std.specs.Prelude.{IfOk, length}
use Rattle.i2c_physics.specs.SimRigs.{kept_states, none_of}
use Rattle.i2c_top.specs.Runs.{texts_of}
use Rattle.i2c_top.proofs.ExtraLemmas.{extra_done, extra_failed}
use Rattle.i2c_top.proofs.FileLemmas.{passed_on}
use Rattle.i2c_lab.specs.Waves.{HasWaved, wave_row}
use Rattle.i2c_lab.proofs.waves.waves.Goals as goal

pub returns-in_err-board-clause-refused : goal.returns-in_err-board-clause-refused
returns-in_err-board-clause-refused g c =
    passed_on c.from_residual.result c.in_err-board.field-0.0 _ c.from_residual.ensures.1 (c.in_err-board.ensures.refused _)

pub run_waves-requires-clause-root : goal.run_waves-requires-clause-root
run_waves-requires-clause-root g c =
    let f = c.in_ok-board.field-0 in
    subst (λ (r : ℕ). r < length f.board.roots) (sym c.number.ensures) c.in_ok-board.ensures.spelled.spells.there

pub returns-clause-done : goal.returns-clause-done
returns-clause-done g c =
    let f = c.in_ok-board.field-0 in
    let read = c.in_ok-board.ensures in
    let rig = c.run_waves.new.rig in
    extra_done wave_row _ _ _ _ _ f.board f.extra (texts_of f.scripts.items) f.words.items read.some read.read read.cheap
    c.read_files.ensures.kept c.run_waves.result c.run_waves.ensures.rig
    (λ tells ports.
    subst (λ (r : ℕ). IfOk c.run_waves.result (λ text. HasWaved f.board r (texts_of f.scripts.items) f.words.items text rig.logs
    (kept_states rig.sim.kept) (none_of (length rig.logs)))) c.number.ensures
    (subst (λ (ws : List ℕ). IfOk c.run_waves.result (λ text. HasWaved f.board c.number.result (texts_of f.scripts.items) ws text rig.logs
    (kept_states rig.sim.kept) (none_of (length rig.logs)))) c.as_slice.ensures.value c.run_waves.ensures.waved))

pub returns-clause-refused : goal.returns-clause-refused
returns-clause-refused g c =
    let f = c.in_ok-board.field-0 in
    let read = c.in_ok-board.ensures in
    extra_failed wave_row _ _ _ _ _ f.board f.extra (texts_of f.scripts.items) f.words.items read.some read.read read.cheap
    c.read_files.ensures.kept c.run_waves.result c.run_waves.ensures.rig

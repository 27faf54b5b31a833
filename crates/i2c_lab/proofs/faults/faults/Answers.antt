use denote.Param.Send.{sendable}
use Rattle.std.proofs.Common.{◌≡◌, ℕ, true, List, Some, refl, ◌∙◌, ap, subst}
use Rattle.std.specs.Prelude.{IfOk, OnOk, length, map}
use Rattle.std.specs.List.{range_with_len}
use Rattle.i2c_physics.specs.FailPorts.{fails_given, fails_on}
use Rattle.i2c_physics.specs.contracts.fail_rig.FailRigRig as FailRigRig
use Rattle.i2c_physics.proofs.SendLemmas.{fail_port-send}
use Rattle.i2c_top.specs.Runs.{HasRun, texts_of}
use Rattle.i2c_top.specs.Traces.{IsRunOver, rig_view}
use Rattle.i2c_top.specs.forms.Extras.{extra_told}
use Rattle.i2c_top.proofs.ExtraLemmas.{extra_done, extra_failed}
use Rattle.i2c_top.proofs.FileLemmas.{passed_on}
use Rattle.i2c_lab.specs.Faults.{list_row}
use Rattle.i2c_lab.proofs.FaultLemmas.{as-many, failed-as-listed}
use Rattle.i2c_lab.proofs.faults.faults.Goals as goal
use Rattle.i2c_lab.proofs.faults.faults.Goals.{After-run_scripts-outcome}

pub returns-in_err-board-clause-refused : goal.returns-in_err-board-clause-refused
returns-in_err-board-clause-refused g c =
    passed_on c.from_residual.result c.in_err-board.field-0.0 _ c.from_residual.ensures.1 (c.in_err-board.ensures.refused _)

pub run_scripts-outcome-requires-send-R-P : goal.run_scripts-outcome-requires-send-R-P
run_scripts-outcome-requires-send-R-P g c κs = search (sendable, fail_port-send)

-- a rig that was armed was plugged and unplugged as often, and has counted as many faults
over : (g : _) (c : After-run_scripts-outcome g) → IsRunOver (rig_view FailRigRig.TheImpl.ghosts true c.args.rig.now)
    (rig_view FailRigRig.TheImpl.ghosts true c.run_scripts-outcome.new.rig) c.run_scripts-outcome.result
over g c =
    subst (λ v. IsRunOver (rig_view FailRigRig.TheImpl.ghosts true v) (rig_view FailRigRig.TheImpl.ghosts true c.run_scripts-outcome.new.rig)
    c.run_scripts-outcome.result) c.arm.ensures c.run_scripts-outcome.ensures.rig

pub returns-clause-done : goal.returns-clause-done
returns-clause-done g c =
    let f = c.in_ok-board.field-0 in
    let read = c.in_ok-board.ensures in
    let rig = c.run_scripts-outcome.new.rig in
    extra_done list_row _ _ _ _ _ f.board f.extra (texts_of f.scripts.items) f.words.items read.some read.read read.cheap
    c.read_files.ensures.kept c.run_scripts-outcome.result (over g (goal.at.returns-clause-done g c).After-run_scripts-outcome)
    (λ tells ports. subst (λ (ws : List ℕ). IfOk c.run_scripts-outcome.result (λ text. HasRun f.board (texts_of f.scripts.items) (Some ws) text
    (FailRigRig.TheImpl.ghosts.logs rig) (FailRigRig.TheImpl.ghosts.states rig) (FailRigRig.TheImpl.ghosts.port_faults rig)))
    c.as_slice.ensures.value (c.run_scripts-outcome.ensures.run tells ports))

pub returns-clause-refused : goal.returns-clause-refused
returns-clause-refused g c =
    let f = c.in_ok-board.field-0 in
    let read = c.in_ok-board.ensures in
    extra_failed list_row _ _ _ _ _ f.board f.extra (texts_of f.scripts.items) f.words.items read.some read.read read.cheap
    c.read_files.ensures.kept c.run_scripts-outcome.result (over g (goal.at.returns-clause-refused g c).After-run_scripts-outcome)

pub returns-clause-failed : goal.returns-clause-failed
returns-clause-failed g c =
    λ t.
    let f = c.in_ok-board.field-0 in
    let read = c.in_ok-board.ensures in
    failed-as-listed _ (extra_told c.args.names.now) f.board f.extra (texts_of f.scripts.items) f.words.items (read.read t) read.cheap
    c.run_scripts-outcome.result _ _ (as-many c.run_scripts-outcome.new.rig.given) c.failed_where_told.ensures
    (subst (λ (cs : List (ℕ × ℕ)). OnOk c.run_scripts-outcome.result (fails_given c.run_scripts-outcome.new.rig.given
    ≡ map (fails_on cs) (range_with_len 0 (length f.board.roots)))) (ap (λ v. v.calls.items) c.arm.ensures ∙ c.into_calls.ensures)
    (c.run_scripts-outcome.ensures.returned refl))

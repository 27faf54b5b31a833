use Rattle.i2c_top.proofs.Cited.{◌≡◌, ◌<◌, ◌≤◌, ◌∙◌, List, ℕ, All, length, map, sym, ap, subst, arith, length-map, CallerView}
use Rattle.i2c_top.proofs.Cited.{BoardView, AtrCallerView, behind_of, left_in, AreReady}
use Rattle.i2c_top.proofs.Cited.{AreOpened, cost_of_texts, texts_of}
use Rattle.i2c_top.specs.forms.Atrs.{map_row}
use Rattle.i2c_top.proofs.MapLaws.{map-row}
use Rattle.i2c_top.proofs.AtrRun.{atr_row, behind-covered, behind-ready, behind-ran}
use Rattle.i2c_top.proofs.ExtraLemmas.{extra_done, extra_failed}
use Rattle.i2c_top.proofs.FileLemmas.{passed_on}
use Rattle.i2c_top.proofs.forms.atr.atr.Goals as goal

pub returns-in_err-board-clause-refused : goal.returns-in_err-board-clause-refused
returns-in_err-board-clause-refused g c =
    passed_on c.from_residual.result c.in_err-board.field-0.0 _ c.from_residual.ensures.1 (c.in_err-board.ensures.refused _)

pub run_callers-requires-clause-ready : goal.run_callers-requires-clause-ready
run_callers-requires-clause-ready g c κs within =
    let f = c.in_ok-board.field-0 in
    let opened = subst (λ (b : BoardView). AreOpened b f.scripts.items) (sym c.in_ok-board.ensures.spelled.spells.board) c.in_ok-board.ensures.opened in
    subst (λ (cs : List AtrCallerView). AreReady atr_row c.lowered.result.now cs) (sym c.in_ok-callers.ensures)
    (subst (λ (b : BoardView). AreReady atr_row b (map (behind_of f.extra) f.scripts.items)) (sym c.lowered.ensures.value)
    (behind-ready f.extra f.scripts.items opened))

pub run_callers-requires-clause-named : goal.run_callers-requires-clause-named
run_callers-requires-clause-named g c κs within =
    let f = c.in_ok-board.field-0 in
    let count : length c.in_ok-callers.callers.items ≡ length f.scripts.items =
    ap (λ (cs : List AtrCallerView). length cs) c.in_ok-callers.ensures ∙ length-map f.scripts.items (behind_of f.extra) in
    subst (λ (ws : List ℕ). All (λ n. n < length c.in_ok-callers.callers.items) ws) (sym c.as_slice-2.ensures.value)
    (subst (λ (n : ℕ). All (λ c. c < n) f.words.items) (sym count) c.in_ok-board.ensures.named)

pub run_callers-requires-clause-covered : goal.run_callers-requires-clause-covered
run_callers-requires-clause-covered g c κs within =
    let f = c.in_ok-board.field-0 in
    let opened = subst (λ (b : BoardView). AreOpened b f.scripts.items) (sym c.in_ok-board.ensures.spelled.spells.board) c.in_ok-board.ensures.opened in
    let below = behind-covered f.extra c.lowered.ensures.kept.plain c.lowered.ensures.kept.rules
    c.scripts_behind_translators_are_fair.ensures.covered f.scripts.items opened in
    let cost : c.limit_of-limit.result ≡ cost_of_texts f.extra.board (texts_of f.scripts.items) =
    c.limit_of-limit.ensures ∙ ap (λ (ss : List CallerView). cost_of_texts f.board (texts_of ss)) c.as_slice.ensures.value
    ∙ ap (λ (b : BoardView). cost_of_texts b (texts_of f.scripts.items)) (sym c.in_ok-board.ensures.spelled.spells.board) in
    subst (λ (cs : List AtrCallerView). left_in atr_row cs ≤ c.limit_of-limit.result) (sym c.in_ok-callers.ensures)
    (omega (arith, below, cost))

pub returns-clause-done : goal.returns-clause-done
returns-clause-done g c =
    let f = c.in_ok-board.field-0 in
    let read = c.in_ok-board.ensures in
    let rig = c.run_callers.new.rig in
    let opened = subst (λ (b : BoardView). AreOpened b f.scripts.items) (sym read.spelled.spells.board) read.opened in
    extra_done map_row _ _ _ _ _ f.board f.extra (texts_of f.scripts.items) f.words.items read.some read.read read.cheap c.read_files.ensures.kept
    c.run_callers.result c.run_callers.ensures.rig
    (λ tells ports. behind-ran f.extra f.scripts.items opened (g.R.Rig.logs rig) (g.R.Rig.states rig) (g.R.Rig.port_faults rig)
    c.lowered.ensures.value c.in_ok-callers.ensures c.as_slice-2.ensures.value c.run_callers.result (c.run_callers.ensures.run tells ports))

pub returns-clause-refused : goal.returns-clause-refused
returns-clause-refused g c =
    let f = c.in_ok-board.field-0 in
    let read = c.in_ok-board.ensures in
    extra_failed map_row _ _ _ _ _ f.board f.extra (texts_of f.scripts.items) f.words.items read.some read.read read.cheap c.read_files.ensures.kept
    c.run_callers.result c.run_callers.ensures.rig

pub read_files-requires-clause-row : goal.read_files-requires-clause-row
read_files-requires-clause-row g c = map-row

use Rattle.i2c_top.proofs.Cited.{◌≡◌, ◌<◌, ◌∙◌, List, [], ℕ, All, length, sym, ap, subst, arith, unwrap_or, option_map, length-map}
use Rattle.i2c_top.proofs.Cited.{CallerView, scripts_fair, cost_of_texts, texts_of}
use Rattle.i2c_top.proofs.Cited.{IsCachedAnswer, names_told}
use Rattle.i2c_top.proofs.CachedLemmas.{cached_done}
use Rattle.i2c_top.proofs.CachedRun.{cached-ready, count-cached, left-cached, cached-ran}
use Rattle.i2c_top.proofs.ReplayLemmas.{files_passed_on, named_all, run_failed}
use Rattle.i2c_top.proofs.forms.cached.cached.Goals as goal
use Rattle.i2c_top.proofs.forms.cached.cached.Goals.{In_ok-callers}

pub returns-in_err-board-clause-refused : goal.returns-in_err-board-clause-refused
returns-in_err-board-clause-refused g c =
    files_passed_on (names_told c.args.names.now) IsCachedAnswer _ _ _ c.from_residual.result c.in_err-board.field-0.0
    c.from_residual.ensures.1 c.read_files.ensures.kept c.in_err-board.ensures.unreached c.in_err-board.ensures.refused

-- a caller for each script
module _ (g : _) (c : In_ok-callers g) where
  count : length c.in_ok-callers.callers.items ≡ length c.in_ok-board.field-0.scripts.items
  count =
      let f = c.in_ok-board.field-0 in
      count-cached f.board (texts_of f.scripts.items) c.in_ok-callers.callers.items c.in_ok-callers.ensures.scripts
      ∙ length-map f.scripts.items (λ (s : CallerView). s.script.text)

pub run_callers-requires-clause-ready : goal.run_callers-requires-clause-ready
run_callers-requires-clause-ready g c κs within =
    let f = c.in_ok-board.field-0 in
    cached-ready f.board (texts_of f.scripts.items) c.in_ok-callers.callers.items c.in_ok-callers.ensures.scripts
    c.in_ok-callers.ensures.untaken

pub run_callers-requires-clause-few : goal.run_callers-requires-clause-few
run_callers-requires-clause-few g c κs within =
    let many = count g (goal.at.run_callers-requires-clause-few g c).In_ok-callers in
    let few = c.in_ok-board.ensures.few in
    omega (arith, many, few)

pub run_callers-requires-clause-named : goal.run_callers-requires-clause-named
run_callers-requires-clause-named g c κs within =
    let f = c.in_ok-board.field-0 in
    let many = count g (goal.at.run_callers-requires-clause-named g c).In_ok-callers in
    let words = option_map (λ v. v.items) f.schedule in
    subst (λ (ws : List ℕ). All (λ n. n < length c.in_ok-callers.callers.items) ws)
    (sym (c.as_slice-2.ensures.value ∙ c.listed-words.ensures))
    (subst (λ (k : ℕ). All (λ n. n < k) (unwrap_or words [])) (sym many)
    (named_all (length f.scripts.items) words c.in_ok-board.ensures.named))

pub run_callers-requires-clause-covered : goal.run_callers-requires-clause-covered
run_callers-requires-clause-covered g c κs within =
    let f = c.in_ok-board.field-0 in
    let left = left-cached f.board (texts_of f.scripts.items) c.in_ok-callers.callers.items c.in_ok-callers.ensures.scripts scripts_fair in
    let cost : c.limit_of-limit.result ≡ cost_of_texts f.board (texts_of f.scripts.items) =
    c.limit_of-limit.ensures ∙ ap (λ (ss : List CallerView). cost_of_texts f.board (texts_of ss)) c.as_slice.ensures.value in
    omega (arith, left, cost)

pub returns-clause-done : goal.returns-clause-done
returns-clause-done g c =
    let f = c.in_ok-board.field-0 in
    let read = c.in_ok-board.ensures in
    let rig = c.run_callers.new.rig in
    cached_done _ _ _ _ _ _ _ _ read.some read.read read.cheap c.read_files.ensures.kept c.run_callers.result c.requires.scheduled
    c.run_callers.ensures.rig
    (λ tells ports. cached-ran f.board (texts_of f.scripts.items) (g.R.Rig.logs rig) (g.R.Rig.states rig) (g.R.Rig.port_faults rig)
    c.in_ok-callers.ensures.scripts (c.as_slice-2.ensures.value ∙ c.listed-words.ensures) c.run_callers.result
    (c.run_callers.ensures.run tells ports))

pub returns-clause-refused : goal.returns-clause-refused
returns-clause-refused g c =
    let read = c.in_ok-board.ensures in
    run_failed IsCachedAnswer read.read read.cheap c.read_files.ensures.kept c.run_callers.ensures.rig

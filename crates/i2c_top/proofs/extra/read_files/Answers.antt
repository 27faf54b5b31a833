use Rattle.i2c_top.proofs.Cited.{shelf_view, ◌≡◌, ℕ, List, IsTrue, length, sym, ap, ◌∙◌, arith, string_bytes, length-map, KeepsBut}
use Rattle.i2c_top.proofs.Cited.{texts_of}
use Rattle.i2c_top.specs.Readings.{HasReadExtra}
use Rattle.i2c_top.specs.forms.Extras.{IsExtraPlace, extra_told, row_of}
use Rattle.i2c_top.proofs.FileLemmas.{all_scripts, dear_of, passed_on}
use Rattle.i2c_top.proofs.ExtraLemmas.{board_told, cost_told, extra_read, extra_refused, kept_board, kept_extra, kept_schedule, kept_scripts}
use Rattle.i2c_top.proofs.ExtraLemmas.{same_extra, script_told, word_told}
use Rattle.i2c_top.proofs.SomeFiles.{some-extra}
use Rattle.i2c_top.proofs.extra.read_files.Goals as goal
use Rattle.i2c_top.proofs.extra.read_files.Goals.{After-schedule_in, In_ok-words}

-- the board, the scripts, the file more and the schedule were read of the form's files
all-kept : (g : _) (c : After-schedule_in g) → KeepsBut (IsExtraPlace (row_of g.E.ExtraFile) (extra_told c.args.names.now))
    (shelf_view g.S.Shelf c.args.shelf.now) (shelf_view g.S.Shelf c.schedule_in.new.shelf)
all-kept g c =
    let names = extra_told c.args.names.now in
    let many = length-map c.args.names.now.scripts.now string_bytes in
    kept_schedule (row_of g.E.ExtraFile) names _ _ _
    (kept_extra (row_of g.E.ExtraFile) names _ _ _ _ _ many c.read_accepted.ensures.kept c.scripts_in.ensures.kept c.extra_in.ensures.kept) c.schedule_in.ensures.kept

-- the schedule is one of as many callers as there are names of scripts
callers : (g : _) (c : After-schedule_in g) → c.callers_of-callers.result ≡ length (extra_told c.args.names.now).scripts
callers g c =
    c.callers_of-callers.ensures ∙ ap length c.as_slice.ensures.value ∙ c.in_ok-scripts.ensures.count
    ∙ sym (length-map c.args.names.now.scripts.now string_bytes)

-- what was read is what was there at first
read : (g : _) (c : In_ok-words g) → IsTrue g.S.Shelf.tells → HasReadExtra (row_of g.E.ExtraFile) (g.S.Shelf.file c.args.shelf.now)
    (extra_told c.args.names.now) c.in_ok-board.board c.in_ok-extra.extra (texts_of c.in_ok-scripts.scripts.items) c.in_ok-words.words.items
read g c t =
    let count = c.in_ok-scripts.ensures.count ∙ sym (length-map c.args.names.now.scripts.now string_bytes) in
    let same = λ (n : List ℕ). c.scripts_in.ensures.kept.files n ∙ c.read_accepted.ensures.kept.files n in
    extra_read (row_of g.E.ExtraFile) _ _ _ _ (extra_told c.args.names.now) g.S.Shelf.tells c.in_ok-board.board c.in_ok-scripts.scripts.items c.in_ok-extra.extra
    c.in_ok-words.words.items c.callers_of-callers.result c.read_accepted.ensures.kept.files same
    (λ n. c.extra_in.ensures.kept.files n ∙ same n) t (c.in_ok-board.ensures.board t) count c.in_ok-scripts.ensures.scripts
    (c.in_ok-extra.ensures.extra t) (c.callers_of-callers.ensures ∙ ap length c.as_slice.ensures.value ∙ count)
    (c.in_ok-words.ensures.schedule t)

pub returns-in_err-board-clause-refused : goal.returns-in_err-board-clause-refused
returns-in_err-board-clause-refused g c =
    let names = extra_told c.args.names.now in
    passed_on c.from_residual.result c.in_err-board.field-0.0 _ c.from_residual.ensures.1
    (λ rig. board_told (row_of g.E.ExtraFile) names _ _ rig (kept_board (row_of g.E.ExtraFile) names _ _ c.read_accepted.ensures.kept) c.in_err-board.field-0.0
    c.read_accepted.ensures.kept.others c.in_err-board.ensures.refused)

pub returns-in_err-scripts-clause-refused : goal.returns-in_err-scripts-clause-refused
returns-in_err-scripts-clause-refused g c =
    let names = extra_told c.args.names.now in
    let many = length-map c.args.names.now.scripts.now string_bytes in
    let kept = kept_scripts (row_of g.E.ExtraFile) names _ _ _ _ many c.read_accepted.ensures.kept c.scripts_in.ensures.kept in
    passed_on c.from_residual-in_err-scripts.result c.in_err-scripts.field-0.0 _ c.from_residual-in_err-scripts.ensures.1
    (λ rig. script_told (row_of g.E.ExtraFile) names _ _ rig kept c.in_ok-board.board (shelf_view g.S.Shelf c.read_accepted.new.shelf) c.in_err-scripts.field-0.0
    c.read_accepted.ensures.kept.files c.read_accepted.ensures.kept.others
    (λ place no. c.scripts_in.ensures.kept.others place (λ h. no (h.0, omega (arith, h.1, many))))
    c.in_ok-board.ensures.board c.in_err-scripts.ensures.refused)

pub returns-in_err-extra-clause-refused : goal.returns-in_err-extra-clause-refused
returns-in_err-extra-clause-refused g c =
    let names = extra_told c.args.names.now in
    let many = length-map c.args.names.now.scripts.now string_bytes in
    let kept = kept_extra (row_of g.E.ExtraFile) names _ _ _ _ _ many c.read_accepted.ensures.kept c.scripts_in.ensures.kept c.extra_in.ensures.kept in
    passed_on c.from_residual-in_err-extra.result c.in_err-extra.field-0.0 _ c.from_residual-in_err-extra.ensures.1
    (λ rig. extra_refused (row_of g.E.ExtraFile) names _ _ rig kept c.requires.row c.in_ok-board.board (shelf_view g.S.Shelf c.scripts_in.new.shelf) c.in_err-extra.field-0.0
    (λ n. c.scripts_in.ensures.kept.files n ∙ c.read_accepted.ensures.kept.files n)
    (λ place low away. c.scripts_in.ensures.kept.others place (λ h. absurd (omega (arith, h.0, low)))
    ∙ c.read_accepted.ensures.kept.others place away)
    (λ place away. c.extra_in.ensures.kept.others place (λ h. away h.0)) c.in_ok-board.ensures.board
    (all_scripts g.S.Shelf.tells (g.S.Shelf.file c.args.shelf.now)
    (g.S.Shelf.file c.read_accepted.new.shelf) names.scripts c.in_ok-board.board
    c.in_ok-scripts.scripts.items c.read_accepted.ensures.kept.files (c.in_ok-scripts.ensures.count
    ∙ sym many) c.in_ok-scripts.ensures.scripts)
    c.in_err-extra.ensures.file c.in_err-extra.ensures.refused)

pub returns-in_err-words-clause-kept : goal.returns-in_err-words-clause-kept
returns-in_err-words-clause-kept g c = all-kept g (goal.at.returns-in_err-words-clause-kept g c).After-schedule_in

pub returns-in_err-words-clause-refused : goal.returns-in_err-words-clause-refused
returns-in_err-words-clause-refused g c =
    let names = extra_told c.args.names.now in
    let at = (goal.at.returns-in_err-words-clause-refused g c).After-schedule_in in
    let kept = all-kept g at in
    let known = callers g at in
    let count = c.in_ok-scripts.ensures.count ∙ sym (length-map c.args.names.now.scripts.now string_bytes) in
    let same = λ (n : List ℕ). c.scripts_in.ensures.kept.files n ∙ c.read_accepted.ensures.kept.files n in
    passed_on c.from_residual-in_err-words.result c.in_err-words.field-0.0 _ c.from_residual-in_err-words.ensures.1
    (λ rig. word_told (row_of g.E.ExtraFile) names _ _ rig kept c.in_ok-board.board c.in_ok-extra.extra
    (shelf_view g.S.Shelf c.extra_in.new.shelf) c.callers_of-callers.result
    c.in_err-words.field-0.0 (λ n. c.extra_in.ensures.kept.files n ∙ same n)
    (c.extra_in.ensures.kept.others 3 (λ h. absurd (omega (arith, h.0))) ∙ c.scripts_in.ensures.kept.others 3 (λ h. absurd (omega (arith, h.0)))
    ∙ c.read_accepted.ensures.kept.others 3 (λ e. absurd (omega (arith, e))))
    c.in_ok-board.ensures.board
    (all_scripts g.S.Shelf.tells (g.S.Shelf.file c.args.shelf.now)
    (g.S.Shelf.file c.read_accepted.new.shelf) names.scripts c.in_ok-board.board
    c.in_ok-scripts.scripts.items c.read_accepted.ensures.kept.files count c.in_ok-scripts.ensures.scripts)
    (λ t. same_extra (row_of g.E.ExtraFile) (g.S.Shelf.file c.args.shelf.now) (g.S.Shelf.file c.scripts_in.new.shelf) c.in_ok-board.board names.extra c.in_ok-extra.extra
    same
    (c.in_ok-extra.ensures.extra t))
    known c.in_err-words.ensures.refused)

pub returns-in_err-check_cost-clause-kept : goal.returns-in_err-check_cost-clause-kept
returns-in_err-check_cost-clause-kept g c = all-kept g (goal.at.returns-in_err-check_cost-clause-kept g c).After-schedule_in

pub returns-in_err-check_cost-clause-refused : goal.returns-in_err-check_cost-clause-refused
returns-in_err-check_cost-clause-refused g c =
    let at = goal.at.returns-in_err-check_cost-clause-refused g c in
    passed_on c.from_residual-in_err-check_cost.result c.in_err-check_cost.field-0.0 _ c.from_residual-in_err-check_cost.ensures.1
    (λ rig. cost_told (row_of g.E.ExtraFile) (extra_told c.args.names.now) _ _ rig (all-kept g at.After-schedule_in) c.in_ok-board.board c.in_ok-extra.extra
    (texts_of c.in_ok-scripts.scripts.items) c.in_ok-words.words.items c.in_err-check_cost.field-0.0 (read g at.In_ok-words)
    (dear_of c.in_ok-board.board c.as_slice-2.ensures.value c.in_err-check_cost.ensures.dear))

pub returns-clause-kept : goal.returns-clause-kept
returns-clause-kept g c = all-kept g (goal.at.returns-clause-kept g c).After-schedule_in

pub returns-clause-read : goal.returns-clause-read
returns-clause-read g c = read g (goal.at.returns-clause-read g c).In_ok-words

pub returns-clause-some : goal.returns-clause-some
returns-clause-some g c =
    let known = callers g (goal.at.returns-clause-some g c).After-schedule_in in
    some-extra (row_of g.E.ExtraFile) (extra_told c.args.names.now) c.in_ok-board.board c.in_ok-scripts.scripts.items c.in_ok-extra.extra c.callers_of-callers.result
    c.in_ok-words.words.items c.in_ok-board.ensures.spelled c.in_ok-scripts.ensures.scripts.grammar c.in_ok-extra.ensures.spelled
    (c.in_ok-scripts.ensures.count ∙ sym (length-map c.args.names.now.scripts.now string_bytes)) known c.in_ok-words.ensures.scheduled

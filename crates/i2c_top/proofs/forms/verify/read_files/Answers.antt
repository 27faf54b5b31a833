use Rattle.i2c_top.proofs.Cited.{shelf_view, IsTrue, refl, sym, ◌∙◌, arith, string_bytes, length-map, KeepsBut}
use Rattle.i2c_top.proofs.Cited.{texts_of, IsPlaceIn, as_replayed, verify_told}
use Rattle.i2c_top.specs.Readings.{HasReadJournal}
use Rattle.i2c_top.proofs.FileLemmas.{all_kept, all_scripts, dear_of, kept_board, kept_scripts, passed_on}
use Rattle.i2c_top.proofs.SomeFiles.{some-journal}
use Rattle.i2c_top.proofs.VerifyLemmas.{board_told, cost_told, journal_read, journal_told, script_told}
use Rattle.i2c_top.proofs.forms.verify.read_files.Goals as goal
use Rattle.i2c_top.proofs.forms.verify.read_files.Goals.{After-bytes_at, After-scripts_in, In_ok-journal}

-- the board and the scripts were read of the form's files,
scripts-kept : (g : _) (c : After-scripts_in g) → KeepsBut (IsPlaceIn (as_replayed (verify_told c.args.names.now)))
    (shelf_view g.S.Shelf c.args.shelf.now) (shelf_view g.S.Shelf c.scripts_in.new.shelf)
scripts-kept g c =
    kept_scripts (as_replayed (verify_told c.args.names.now)) _ _ _ 3 _ refl (sym (length-map c.args.names.now.scripts.now string_bytes))
    c.read_accepted.ensures.kept c.scripts_in.ensures.kept

-- .. and then the journal
all-kept : (g : _) (c : After-bytes_at g) → KeepsBut (IsPlaceIn (as_replayed (verify_told c.args.names.now)))
    (shelf_view g.S.Shelf c.args.shelf.now) (shelf_view g.S.Shelf c.bytes_at.new.shelf)
all-kept g c =
    all_kept (as_replayed (verify_told c.args.names.now)) _ _ _ _ 3 _ refl (sym (length-map c.args.names.now.scripts.now string_bytes))
    c.read_accepted.ensures.kept c.scripts_in.ensures.kept c.bytes_at.ensures.kept

-- what was read is what was there at first
read : (g : _) (c : In_ok-journal g) → IsTrue g.S.Shelf.tells → HasReadJournal (g.S.Shelf.file c.args.shelf.now)
    (verify_told c.args.names.now) c.in_ok-board.board (texts_of c.in_ok-scripts.scripts.items) c.in_ok-journal.journal.items
read g c t =
    journal_read _ _ _ (verify_told c.args.names.now) g.S.Shelf.tells c.in_ok-board.board c.in_ok-scripts.scripts.items
    c.in_ok-journal.journal.items c.read_accepted.ensures.kept.files c.scripts_in.ensures.kept.files t (c.in_ok-board.ensures.board t)
    (c.in_ok-scripts.ensures.count ∙ sym (length-map c.args.names.now.scripts.now string_bytes)) c.in_ok-scripts.ensures.scripts
    (c.in_ok-journal.ensures.bytes t)

pub returns-in_err-board-clause-kept : goal.returns-in_err-board-clause-kept
returns-in_err-board-clause-kept g c = kept_board (as_replayed (verify_told c.args.names.now)) _ _ c.read_accepted.ensures.kept

pub returns-in_err-board-clause-refused : goal.returns-in_err-board-clause-refused
returns-in_err-board-clause-refused g c =
    let names = verify_told c.args.names.now in
    passed_on c.from_residual.result c.in_err-board.field-0.0 _ c.from_residual.ensures.1
    (λ rig. board_told names _ _ rig (kept_board (as_replayed names) _ _ c.read_accepted.ensures.kept) c.in_err-board.field-0.0
    c.read_accepted.ensures.kept.others c.in_err-board.ensures.refused)

pub returns-in_err-scripts-clause-kept : goal.returns-in_err-scripts-clause-kept
returns-in_err-scripts-clause-kept g c = scripts-kept g (goal.at.returns-in_err-scripts-clause-kept g c).After-scripts_in

pub returns-in_err-scripts-clause-refused : goal.returns-in_err-scripts-clause-refused
returns-in_err-scripts-clause-refused g c =
    let many = length-map c.args.names.now.scripts.now string_bytes in
    let kept = scripts-kept g (goal.at.returns-in_err-scripts-clause-refused g c).After-scripts_in in
    passed_on c.from_residual-in_err-scripts.result c.in_err-scripts.field-0.0 _ c.from_residual-in_err-scripts.ensures.1
    (λ rig. script_told (verify_told c.args.names.now) _ _ rig kept c.in_ok-board.board (shelf_view g.S.Shelf c.read_accepted.new.shelf)
    c.in_err-scripts.field-0.0 c.read_accepted.ensures.kept.files c.read_accepted.ensures.kept.others
    (λ place no. c.scripts_in.ensures.kept.others place (λ h. no (h.0, omega (arith, h.1, many))))
    c.in_ok-board.ensures.board c.in_err-scripts.ensures.refused)

pub returns-in_err-journal-clause-kept : goal.returns-in_err-journal-clause-kept
returns-in_err-journal-clause-kept g c = all-kept g (goal.at.returns-in_err-journal-clause-kept g c).After-bytes_at

pub returns-in_err-journal-clause-refused : goal.returns-in_err-journal-clause-refused
returns-in_err-journal-clause-refused g c =
    let names = verify_told c.args.names.now in
    let kept = all-kept g (goal.at.returns-in_err-journal-clause-refused g c).After-bytes_at in
    let count = c.in_ok-scripts.ensures.count ∙ sym (length-map c.args.names.now.scripts.now string_bytes) in
    passed_on c.from_residual-in_err-journal.result c.in_err-journal.field-0.0 _ c.from_residual-in_err-journal.ensures.1
    (λ rig. journal_told names _ _ rig kept c.in_ok-board.board c.in_err-journal.field-0.0 _
    (c.scripts_in.ensures.kept.others 2 (λ h. absurd (omega (arith, h.0))) ∙ c.read_accepted.ensures.kept.others 2
    (λ e. absurd (omega (arith, e))))
    c.in_ok-board.ensures.board
    (all_scripts g.S.Shelf.tells (g.S.Shelf.file c.args.shelf.now)
    (g.S.Shelf.file c.read_accepted.new.shelf) names.scripts c.in_ok-board.board
    c.in_ok-scripts.scripts.items c.read_accepted.ensures.kept.files count c.in_ok-scripts.ensures.scripts)
    c.in_err-journal.ensures.refused)

pub returns-in_err-check_cost-clause-kept : goal.returns-in_err-check_cost-clause-kept
returns-in_err-check_cost-clause-kept g c = all-kept g (goal.at.returns-in_err-check_cost-clause-kept g c).After-bytes_at

pub returns-in_err-check_cost-clause-refused : goal.returns-in_err-check_cost-clause-refused
returns-in_err-check_cost-clause-refused g c =
    let at = goal.at.returns-in_err-check_cost-clause-refused g c in
    passed_on c.from_residual-in_err-check_cost.result c.in_err-check_cost.field-0.0 _ c.from_residual-in_err-check_cost.ensures.1
    (λ rig. cost_told (verify_told c.args.names.now) _ _ rig (all-kept g at.After-bytes_at) c.in_ok-board.board
    (texts_of c.in_ok-scripts.scripts.items) c.in_ok-journal.journal.items c.in_err-check_cost.field-0.0 (read g at.In_ok-journal)
    (dear_of c.in_ok-board.board c.as_slice.ensures.value c.in_err-check_cost.ensures.dear))

pub returns-clause-kept : goal.returns-clause-kept
returns-clause-kept g c = all-kept g (goal.at.returns-clause-kept g c).After-bytes_at

pub returns-clause-read : goal.returns-clause-read
returns-clause-read g c = read g (goal.at.returns-clause-read g c).In_ok-journal

pub returns-clause-some : goal.returns-clause-some
returns-clause-some g c =
    some-journal (verify_told c.args.names.now) c.in_ok-board.board c.in_ok-scripts.scripts.items c.in_ok-journal.journal.items
    c.in_ok-board.ensures.spelled c.in_ok-scripts.ensures.scripts.grammar
    (c.in_ok-scripts.ensures.count ∙ sym (length-map c.args.names.now.scripts.now string_bytes))

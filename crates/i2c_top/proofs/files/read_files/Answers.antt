use Rattle.i2c_top.proofs.Cited.{common_steps, ℕ, sym, ap, subst, ◌∙◌, arith, length, string_bytes, length-map, names_told, IsRefusedScript}
use Rattle.i2c_top.proofs.Cited.{texts_of}
use Rattle.std.specs.Prelude.{option_map}
use Rattle.i2c_top.proofs.FileLemmas.{all_kept, all_scripts, has_read, passed_on, scripts_refusal, schedule_before, order_refusal}
use Rattle.i2c_top.proofs.FileLemmas.{cost_refusal, dear_of, board_unreached, scripts_unreached, order_unreached}
use Rattle.i2c_top.proofs.SomeFiles.{some-read}
use Rattle.i2c_top.proofs.files.read_files.Goals as goal

pub returns-in_err-scripts-clause-refused : goal.returns-in_err-scripts-clause-refused
returns-in_err-scripts-clause-refused g c =
    passed_on c.from_residual-in_err-scripts.result c.in_err-scripts.field-0.0 _ c.from_residual-in_err-scripts.ensures.1
    (scripts_refusal g.S.Shelf.tells (g.S.Shelf.file c.args.shelf.now) (g.S.Shelf.file c.read_accepted.new.shelf) c.in_ok-board.board
    (names_told c.args.names.now) (g.S.Shelf.faults c.args.shelf.now)
    (g.S.Shelf.faults c.read_accepted.new.shelf)
    (g.S.Shelf.faults c.scripts_in.new.shelf) c.in_err-scripts.field-0.0 c.read_accepted.ensures.kept.files
    c.read_accepted.ensures.kept.others
    c.in_ok-board.ensures.board
    (subst (λ (n : ℕ). IsRefusedScript n g.S.Shelf.tells (g.S.Shelf.file c.read_accepted.new.shelf) c.in_ok-board.board
    (names_told c.args.names.now).scripts (g.S.Shelf.faults c.read_accepted.new.shelf)
    (g.S.Shelf.faults c.scripts_in.new.shelf) c.in_err-scripts.field-0.0) c.first_script.ensures c.in_err-scripts.ensures.refused))

pub returns-in_err-schedule-clause-refused : goal.returns-in_err-schedule-clause-refused
returns-in_err-schedule-clause-refused g c =
    let names = names_told c.args.names.now in
    let count = c.in_ok-scripts.ensures.count ∙ sym (length-map c.args.names.now.scripts.now string_bytes) in
    let file = g.S.Shelf.file c.args.shelf.now in
    passed_on c.from_residual-in_err-schedule.result c.in_err-schedule.field-0.0 _ c.from_residual-in_err-schedule.ensures.1
    (order_refusal g.S.Shelf.tells file (g.S.Shelf.file c.scripts_in.new.shelf) c.in_ok-board.board names.board names.schedule names.scripts
    (g.S.Shelf.faults c.args.shelf.now) (g.S.Shelf.faults c.scripts_in.new.shelf)
    (g.S.Shelf.faults c.order_in.new.shelf) c.callers_of.result c.in_err-schedule.field-0.0 (c.callers_of.ensures
    ∙ ap length c.as_slice.ensures.value ∙ count)
    (λ n. c.scripts_in.ensures.kept.files n ∙ c.read_accepted.ensures.kept.files n)
    (λ place at. let before = schedule_before names.schedule place at in
    c.scripts_in.ensures.kept.others place (λ p. absurd (omega (arith, p.0, before.1, c.first_script.ensures)))
    ∙ c.read_accepted.ensures.kept.others place (λ e. absurd (omega (arith, e, before.0))))
    c.in_ok-board.ensures.board
    (all_scripts g.S.Shelf.tells file
    (g.S.Shelf.file c.read_accepted.new.shelf) names.scripts c.in_ok-board.board c.in_ok-scripts.scripts.items
    c.read_accepted.ensures.kept.files count c.in_ok-scripts.ensures.scripts)
    c.in_err-schedule.ensures.refused)

pub returns-in_err-check_cost-clause-refused : goal.returns-in_err-check_cost-clause-refused
returns-in_err-check_cost-clause-refused g c =
    let names = names_told c.args.names.now in
    let count = c.in_ok-scripts.ensures.count ∙ sym (length-map c.args.names.now.scripts.now string_bytes) in
    let scripts = c.in_ok-scripts.scripts.items in
    passed_on c.from_residual-in_err-check_cost.result c.in_err-check_cost.field-0.0 _ c.from_residual-in_err-check_cost.ensures.1
    (cost_refusal g.S.Shelf.tells (g.S.Shelf.file c.args.shelf.now) names (g.S.Shelf.faults c.args.shelf.now)
    (g.S.Shelf.faults c.order_in.new.shelf) c.in_ok-board.board (texts_of scripts)
    (option_map (λ v. v.items) c.in_ok-schedule.schedule) c.in_err-check_cost.field-0.0
    (λ t. has_read _ _ _ names g.S.Shelf.tells c.in_ok-board.board scripts
    (option_map (λ v. v.items) c.in_ok-schedule.schedule) c.read_accepted.ensures.kept.files c.scripts_in.ensures.kept.files t
    (c.in_ok-board.ensures.board t) count
    c.in_ok-scripts.ensures.scripts c.callers_of.result (c.callers_of.ensures ∙ ap length c.as_slice.ensures.value ∙ count)
    (c.in_ok-schedule.ensures.order t))
    (dear_of c.in_ok-board.board c.as_slice-2.ensures.value c.in_err-check_cost.ensures.dear))

pub returns-in_err-check_cost-clause-kept : goal.returns-in_err-check_cost-clause-kept
returns-in_err-check_cost-clause-kept g c =
    all_kept (names_told c.args.names.now) _ _ _ _ _ _ c.first_script.ensures (sym (length-map c.args.names.now.scripts.now string_bytes))
    c.read_accepted.ensures.kept c.scripts_in.ensures.kept c.order_in.ensures.kept

pub returns-clause-kept : goal.returns-clause-kept
returns-clause-kept g c =
    all_kept (names_told c.args.names.now) _ _ _ _ _ _ c.first_script.ensures (sym (length-map c.args.names.now.scripts.now string_bytes))
    c.read_accepted.ensures.kept c.scripts_in.ensures.kept c.order_in.ensures.kept

pub returns-clause-some : goal.returns-clause-some
returns-clause-some g c =
    let names = names_told c.args.names.now in
    let count = c.in_ok-scripts.ensures.count ∙ sym (length-map c.args.names.now.scripts.now string_bytes) in
    some-read names c.in_ok-board.board c.in_ok-scripts.scripts.items c.callers_of.result (option_map
    (λ v. v.items) c.in_ok-schedule.schedule)
    c.in_ok-board.ensures.spelled c.in_ok-scripts.ensures.scripts.grammar count
    (c.callers_of.ensures ∙ ap length c.as_slice.ensures.value ∙ count) c.in_ok-schedule.ensures.ordered

pub returns-clause-read : goal.returns-clause-read
returns-clause-read g c =
    let names = names_told c.args.names.now in
    let count = c.in_ok-scripts.ensures.count ∙ sym (length-map c.args.names.now.scripts.now string_bytes) in
    λ t. has_read _ _ _ names g.S.Shelf.tells c.in_ok-board.board c.in_ok-scripts.scripts.items
    (option_map (λ v. v.items) c.in_ok-schedule.schedule) c.read_accepted.ensures.kept.files c.scripts_in.ensures.kept.files t
    (c.in_ok-board.ensures.board t) count c.in_ok-scripts.ensures.scripts c.callers_of.result (c.callers_of.ensures
    ∙ ap length c.as_slice.ensures.value ∙ count) (c.in_ok-schedule.ensures.order t)

pub scripts_in-requires-clause-few : goal.scripts_in-requires-clause-few
scripts_in-requires-clause-few g c = grind (arith, common_steps)

pub callers_of-requires : goal.callers_of-requires
callers_of-requires g c = grind (arith, common_steps)

pub check_cost-requires : goal.check_cost-requires
check_cost-requires g c = grind (arith, common_steps)

pub returns-in_err-schedule-clause-kept : goal.returns-in_err-schedule-clause-kept
returns-in_err-schedule-clause-kept g c =
    all_kept (names_told c.args.names.now) _ _ _ _ _ _ c.first_script.ensures (sym (length-map c.args.names.now.scripts.now string_bytes))
    c.read_accepted.ensures.kept c.scripts_in.ensures.kept c.order_in.ensures.kept

pub returns-clause-few : goal.returns-clause-few
returns-clause-few g c = grind (arith, common_steps)

pub returns-clause-cheap : goal.returns-clause-cheap
returns-clause-cheap g c = grind (arith, common_steps)

pub returns-in_err-board-clause-kept : goal.returns-in_err-board-clause-kept
returns-in_err-board-clause-kept g c = grind (arith, common_steps)

pub returns-in_err-board-clause-unreached : goal.returns-in_err-board-clause-unreached
returns-in_err-board-clause-unreached g c =
    passed_on c.from_residual.result c.in_err-board.field-0.0 _ c.from_residual.ensures.1
    (board_unreached (names_told c.args.names.now).schedule _ (g.S.Shelf.faults c.args.shelf.now)
    (g.S.Shelf.faults c.read_accepted.new.shelf) c.in_err-board.field-0.0 c.read_accepted.ensures.kept.others
    c.in_err-board.ensures.refused)

pub returns-in_err-scripts-clause-kept : goal.returns-in_err-scripts-clause-kept
returns-in_err-scripts-clause-kept g c = grind (arith, common_steps)

pub returns-in_err-scripts-clause-unreached : goal.returns-in_err-scripts-clause-unreached
returns-in_err-scripts-clause-unreached g c =
    let names = names_told c.args.names.now in
    let first = c.first_script.ensures in
    let many = length-map c.args.names.now.scripts.now string_bytes in
    passed_on c.from_residual-in_err-scripts.result c.in_err-scripts.field-0.0 _ c.from_residual-in_err-scripts.ensures.1
    (scripts_unreached names.schedule g.S.Shelf.tells (g.S.Shelf.file c.read_accepted.new.shelf) c.in_ok-board.board names.scripts
    (g.S.Shelf.faults c.args.shelf.now) (g.S.Shelf.faults c.read_accepted.new.shelf)
    (g.S.Shelf.faults c.scripts_in.new.shelf) c.in_err-scripts.field-0.0 c.read_accepted.ensures.kept.others
    (λ place no. c.scripts_in.ensures.kept.others place (λ h. no (omega (arith, h.0, first), omega (arith, h.1, first, many))))
    (subst (λ (n : ℕ). IsRefusedScript n g.S.Shelf.tells (g.S.Shelf.file c.read_accepted.new.shelf) c.in_ok-board.board names.scripts
    (g.S.Shelf.faults c.read_accepted.new.shelf) (g.S.Shelf.faults c.scripts_in.new.shelf) c.in_err-scripts.field-0.0)
    first c.in_err-scripts.ensures.refused))

pub returns-in_err-schedule-clause-unreached : goal.returns-in_err-schedule-clause-unreached
returns-in_err-schedule-clause-unreached g c =
    passed_on c.from_residual-in_err-schedule.result c.in_err-schedule.field-0.0 _ c.from_residual-in_err-schedule.ensures.1
    (order_unreached (names_told c.args.names.now).schedule g.S.Shelf.tells (g.S.Shelf.file c.scripts_in.new.shelf) c.callers_of.result
    (g.S.Shelf.faults c.args.shelf.now) (g.S.Shelf.faults c.scripts_in.new.shelf)
    (g.S.Shelf.faults c.order_in.new.shelf) c.in_err-schedule.field-0.0 c.in_err-schedule.ensures.refused)

pub returns-in_err-check_cost-clause-unreached : goal.returns-in_err-check_cost-clause-unreached
returns-in_err-check_cost-clause-unreached g c = grind (arith, common_steps)

pub returns-in_err-board-clause-refused : goal.returns-in_err-board-clause-refused
returns-in_err-board-clause-refused g c = grind (arith, common_steps)

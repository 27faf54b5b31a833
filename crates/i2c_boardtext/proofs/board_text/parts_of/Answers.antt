use Rattle.i2c_boardtext.proofs.Cited.{◌≡◌, length, ap, sym, ◌∙◌, arith, buses_of, board_by_parts}
use Rattle.std.proofs.Common.{Ok}
use Rattle.i2c_board.specs.declared.board.Board.{Board}
use Rattle.i2c_boardtext.proofs.PartLemmas.{are_parts, root_fault, mux_fault, device_fault}
use Rattle.i2c_boardtext.proofs.RowLemmas.{gives_err}
use Rattle.i2c_boardtext.specs.Rows.{top_view}
use Rattle.i2c_boardtext.proofs.board_text.parts_of.Goals as goal

pub returns-in_err-roots : goal.returns-in_err-roots
returns-in_err-roots c =
    let t = top_view c.args.top.now in
    let e = c.in_err-roots.field-0.0 in
    gives_err (λ (b : Board). b) c.from_residual.result e (board_by_parts t) c.from_residual.ensures.1
    (root_fault t e c.in_err-roots.ensures.exact)

pub returns-in_err-muxes : goal.returns-in_err-muxes
returns-in_err-muxes c =
    let t = top_view c.args.top.now in
    let e = c.in_err-muxes.field-0.0 in
    let count : c.len-root_count.result ≡ length c.in_ok-roots.roots.items = omega arith in
    gives_err (λ (b : Board). b) c.from_residual-in_err-muxes.result e (board_by_parts t) c.from_residual-in_err-muxes.ensures.1
    (mux_fault t e c.in_ok-roots.roots.items c.len-root_count.result c.in_ok-roots.ensures.exact count c.in_err-muxes.ensures.exact)

pub returns-in_err-devices : goal.returns-in_err-devices
returns-in_err-devices c =
    let t = top_view c.args.top.now in
    let e = c.in_err-devices.field-0.0 in
    let count : c.len-root_count.result ≡ length c.in_ok-roots.roots.items = omega arith in
    gives_err (λ (b : Board). b) c.from_residual-in_err-devices.result e (board_by_parts t) c.from_residual-in_err-devices.ensures.1
    (device_fault t e c.in_ok-roots.roots.items c.in_ok-muxes.muxes.items c.len-root_count.result c.count_buses-buses.result
    c.in_ok-roots.ensures.exact count
    c.in_ok-muxes.ensures.exact (c.count_buses-buses.ensures
    ∙ ap (buses_of c.len-root_count.result) c.deref.ensures.value) c.in_err-devices.ensures.exact)

pub returns : goal.returns
returns c =
    let count : c.len-root_count.result ≡ length c.in_ok-roots.roots.items = omega arith in
    are_parts (top_view c.args.top.now) c.in_ok-roots.roots.items c.in_ok-muxes.muxes.items c.in_ok-devices.devices.items
    c.len-root_count.result c.count_buses-buses.result
    c.in_ok-roots.ensures.exact count c.in_ok-muxes.ensures.exact (c.count_buses-buses.ensures
    ∙ ap (buses_of c.len-root_count.result) c.deref.ensures.value) c.in_ok-devices.ensures.exact ∙ ap Ok (sym c.in_ok-new.ensures)

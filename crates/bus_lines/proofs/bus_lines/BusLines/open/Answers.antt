use Rattle.bus_lines.proofs.Cited.{refl, subst, IsPlainBoard}
use Rattle.bus_lines.proofs.OpenLemmas.{free_lines, lines_world}
use Rattle.bus_lines.proofs.bus_lines.BusLines.open.Goals as goal

pub returns-clause-free : goal.returns-clause-free
returns-clause-free c =
    let b = c.args.board.now in
    free_lines b c.args.root (subst IsPlainBoard c.board.ensures.value c.roots.ensures.plain) c.chips_stand_before_devices.ensures
    (c.the_sites_of_a_board_are_its_worlds.ensures b c.args.root) c.in_ok-open.field-0 c.free.result _ c.in_ok-open.ensures c.free.ensures
    refl refl

pub returns-clause-world : goal.returns-clause-world
returns-clause-world c =
    let b = c.args.board.now in
    lines_world b c.args.root (subst IsPlainBoard c.board.ensures.value c.roots.ensures.plain) c.chips_stand_before_devices.ensures
    (c.the_sites_of_a_board_are_its_worlds.ensures b c.args.root) c.in_ok-open.field-0 c.free.result _ c.in_ok-open.ensures c.free.ensures
    refl refl

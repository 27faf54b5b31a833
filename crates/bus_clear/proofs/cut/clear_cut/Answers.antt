use Rattle.bus_clear.proofs.Cited.{◌≡◌, ◌∙◌, false, arith, IsTrue, world_at}
use Rattle.bus_clear.specs.Clears.{ClearIs}
use Rattle.bus_clear.specs.Cuts.{level_at}
use Rattle.bus_clear.proofs.ClearLemmas.{cut_told}
use Rattle.bus_clear.proofs.cut.clear_cut.Goals as goal
use Rattle.bus_clear.proofs.cut.clear_cut.Goals.{After-clear_bus}

-- the level behind the cut, and what bus clear makes of the lines
told : (g : _) (c : After-clear_bus g) → IsTrue g.L.Lines.tells
    → (c.look-high.result.1 ≡ level_at (world_at (g.L.Lines.board c.args.lines.now) false (g.L.Lines.bus c.args.lines.now)) c.args.addr
    c.args.cut)
    × ClearIs (g.L.Lines.board c.args.lines.now) c.args.addr c.args.cut c.clear_bus.result (g.L.Lines.bus c.args.lines.now)
    (g.L.Lines.bus c.clear_bus.new.lines)
told g c tells =
    let bus = g.L.Lines.bus in
    let board = g.L.Lines.board in
    cut_told c.chips_stand_before_devices.ensures c.devices_hold_bytes.ensures.kept c.chips_are_fair.ensures c.states_are_fair.ensures
    c.a_start_on_the_sites_is_one_in_the_world.ensures c.a_get_on_the_sites_is_one_in_the_world.ensures
    c.a_stop_on_the_sites_is_one_in_the_world.ensures (board c.args.lines.now) (bus c.args.lines.now) (c.requires.free tells)
    (c.requires.quiet tells) c.args.addr (omega (arith, c.get.ensures.range.1)) c.args.cut c.requires.cut.0 c.requires.cut.1
    (board c.look-high.new.self) (c.look-high.ensures.board ∙ c.cut_read.ensures.board) (bus c.cut_read.new.lines)
    (bus c.look-high.new.self) (bus c.clear_bus.new.lines) c.look-high.result.1 c.clear_bus.result (c.cut_read.ensures.bus tells)
    (c.look-high.ensures.level tells) (c.look-high.ensures.bus tells) (c.clear_bus.ensures.bus tells)

pub returns-clause-level : goal.returns-clause-level
returns-clause-level g c tells = (told g c tells).0

pub returns-clause-told : goal.returns-clause-told
returns-clause-told g c tells = (told g c tells).1

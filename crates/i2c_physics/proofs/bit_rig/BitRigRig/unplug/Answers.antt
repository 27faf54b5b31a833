use Rattle.i2c_physics.proofs.Cited.{◌≡◌, List, map, Some, sym, ap, ◌∙◌, subst, unwrap_or, BoardView, World, AreWorldsOf, devices_of}
use Rattle.i2c_physics.proofs.Cited.{parted, PortView}
use Rattle.i2c_physics.specs.BitRigs.{BitRigView}
use Rattle.i2c_physics.specs.SimRigs.{no_board}
use Rattle.i2c_physics.proofs.WireLemmas.{none_counted, none_set, parted_worlds, room_enough}
use Rattle.i2c_physics.proofs.bit_rig.BitRigRig.unplug.Given.{Over}
use Rattle.i2c_physics.proofs.bit_rig.BitRigRig.unplug.Goals as goal

-- the board of the room is the rig's
room_is : (g : Over) (c : goal.After-take_devices g) → c.self.inside.sim.room ≡ Some c.in-Some.buffer
room_is g c = sym c.self.invariant ∙ sym c.take.ensures.value ∙ c.in-Some.is

board_is : (g : Over) (c : goal.After-take_devices g) → unwrap_or c.args.self.now.sim.room no_board ≡ c.in-Some.buffer
board_is g c = ap (λ o. unwrap_or o no_board) (sym (ap (λ (r : BitRigView). r.sim.room) c.self.view_is) ∙ room_is g c)

same_board : (g : Over) (c : goal.After-take_devices g) → unwrap_or c.args.self.now.sim.room no_board ≡ unwrap_or c.self.inside.sim.room no_board
same_board g c = ap (λ (r : BitRigView). unwrap_or r.sim.room no_board) (sym c.self.view_is)

-- all ports are taken apart
all_parted : (g : Over) (c : goal.After-take_devices g) → AreWorldsOf (unwrap_or c.args.self.now.sim.room no_board)
    (map (λ p. p.world) c.args.ports.items)
    → c.fill-parted.result.ports.items ≡ map parted c.args.ports.items
all_parted g c of = c.fill-parted.ensures.ports (room_enough c.in-Some.buffer c.args.ports.items
    (subst (λ (b : BoardView). AreWorldsOf b (map (λ p. p.world) c.args.ports.items)) (board_is g c) of))

worlds_are : (g : Over) (c : goal.After-take_devices g) → AreWorldsOf (unwrap_or c.args.self.now.sim.room no_board)
    (map (λ p. p.world) c.args.ports.items)
    → map (λ (p : PortView). p.world) c.fill-parted.result.ports.items ≡ map (λ p. p.world) c.args.ports.items
worlds_are g c of = ap (map (λ (p : PortView). p.world)) (all_parted g c of) ∙ parted_worlds c.args.ports.items

are_those : (g : Over) (c : goal.After-take_devices g) → AreWorldsOf (unwrap_or c.args.self.now.sim.room no_board)
    (map (λ p. p.world) c.args.ports.items)
    → AreWorldsOf (unwrap_or c.self.inside.sim.room no_board) (map (λ (p : PortView). p.world) c.fill-parted.result.ports.items)
are_those g c of =
    subst (λ (b : BoardView). AreWorldsOf b (map (λ (p : PortView). p.world) c.fill-parted.result.ports.items)) (same_board g c)
    (subst (λ (ws : List World). AreWorldsOf (unwrap_or c.args.self.now.sim.room no_board) ws) (sym (worlds_are g c of)) of)

pub returns-in-Some-clause-states : goal.returns-in-Some-clause-states
returns-in-Some-clause-states g c = λ of.
    c.take_devices.ensures.states (are_those g c of)
    ∙ ap (λ (b : BoardView). devices_of b (map (λ (p : PortView). p.world) c.fill-parted.result.ports.items)) (sym (same_board g c))
    ∙ ap (devices_of (unwrap_or c.args.self.now.sim.room no_board)) (worlds_are g c of)

pub returns-in-Some-clause-counts : goal.returns-in-Some-clause-counts
returns-in-Some-clause-counts g c =
    rw c.of.ensures (none_counted c.args.ports.items c.fill-parted.ensures.faults)

pub returns-in-Some-clause-returned : goal.returns-in-Some-clause-returned
returns-in-Some-clause-returned g c = rw c.of.ensures (none_set c.args.ports.items)

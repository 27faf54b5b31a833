use Rattle.i2c_physics.proofs.Cited.{◌≡◌, ◌++◌, ◌∷◌, [], ap, ◌∙◌, rules, World, PortView, parted}
use Rattle.i2c_base.specs.declared.port.Phase.TheVariants.{Idle}
use Rattle.i2c_bits.specs.Stands.{world_at}
use Rattle.bus_lines.specs.Aparts.{world_apart}
use Rattle.i2c_physics.proofs.parted_port.take_one.Given.{Over}
use Rattle.i2c_physics.proofs.parted_port.take_one.Goals as goal

-- what is left of the port is a world
abbrev left : World → PortView
left world = record { world = world; log = []; phase = Idle }

part_is : (g : Over) (c : goal.Joined-push g) → left (world_apart c.into_parts-parts.result.busy c.apart.result) ≡ parted c.args.port
part_is g c =
    ap left
    (c.apart.ensures c.into_parts-parts.result.busy
    ∙ ap (λ k. world_at k c.into_parts-parts.result.busy c.into_lines-lines.result.bus) c.into_lines-lines.ensures.board
    ∙ ap (world_at _ c.into_parts-parts.result.busy) c.into_lines-lines.ensures.bus ∙ c.into_parts-parts.ensures.world)

pub returns-clause-port : goal.returns-clause-port
returns-clause-port g c = λ room.
    let ok = c.push.ensures.succeeds room in
    let more : c.push.new.self.items ≡ c.args.done.now.items ++ left (world_apart c.into_parts-parts.result.busy c.apart.result) ∷ [] =
    search rules in
    more ∙ ap (λ (p : PortView). c.args.done.now.items ++ p ∷ []) (part_is g c)

-- Who has heard a start, by number and by name.
use Rattle.std.specs.Prelude.{ℕ, List, [], ◌∷◌, ◌++◌, map, if◌then◌else◌}
use Rattle.i2c_base.specs.declared.ids.Node.{Node}
use Rattle.i2c_base.specs.declared.ids.Node.TheVariants as node
use Rattle.i2c_base.specs.declared.event.Answer.{Answer}
use Rattle.i2c_spec.specs.World.{has_heard}

-- the numbers of those who have heard
abbrev pub numbers_of : List (ℕ × Answer) → List ℕ
numbers_of [] = []
numbers_of (x ∷ xs) = if has_heard x.1 then x.0 ∷ numbers_of xs else numbers_of xs

-- those who have heard, by name: chips, then devices
abbrev pub nodes_of : List ℕ → List ℕ → List Node
nodes_of chips devices = map node.Chip chips ++ map node.Device devices

-- How many steps and bytes a walk has at most, and the bytes of its reply; a settle belongs to the step before it.
use Rattle.std.specs.Prelude.{◌≡◌, ℕ, ◌+◌, ◌≤◌, true, List, Option}
use Rattle.i2c_base.specs.Board.{BoardView}
use Rattle.i2c_spec.specs.Tree.{Hop, IsAmongHops}
use Rattle.i2c_spec.specs.Messages.{bytes_most}
use Rattle.i2c_spec.specs.Flat.{block_limit}
use Rattle.bus_spec.specs.Walk.{Act, Take, Free, Send, Shift, Settle, ActOutcome, WalkTree, Ends, Look, Then, is_arbitrator, message_of}

-- what one step weighs: a lock or a line is one, a message is one and one more for each of its bytes
abbrev pub weight_at : BoardView → Act → ℕ
weight_at b (Take l) = 1
weight_at b (Free l) = 1
weight_at b (Send job left) = 1 + bytes_most (block_limit b) (message_of b job left)
weight_at b (Shift job) = 1
weight_at b (Settle verdict) = 0

-- whatever the looks find and the steps give, the steps of the walk together weigh no more than this
abbrev pub IsWithin : BoardView → WalkTree → ℕ → Type 0
IsWithin b Ends n = Unit {0}
IsWithin b (Look ask next) n = (m : Option ℕ) → IsWithin b (next m) n
IsWithin b (Then act note next) n = (m : ℕ) × (weight_at b act + m ≤ n) × ((out : ActOutcome) → IsWithin b (next out) m)

-- arbitrators are parent-locked, as on every accepted board
abbrev pub ArbitratorsArePassed : List Hop → Type 0
ArbitratorsArePassed hs = (h : Hop) → IsAmongHops h hs → is_arbitrator h.kind ≡ true → h.parent ≡ true

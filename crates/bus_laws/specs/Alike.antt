-- The devices of a root's world beside those of the flat world, and messages over both.
use Rattle.std.specs.Prelude.{◌≡◌, ℕ, ◌==◌, Bool, true, false, ◌⊎◌, List, [], ◌∷◌, Option, Some, None, slice_get}
use Rattle.i2c_base.specs.declared.ids.Node.{Node}
use Rattle.i2c_base.specs.declared.ids.Node.TheVariants as node
use Rattle.i2c_base.specs.declared.entry.End.{End}
use Rattle.i2c_base.specs.Board.{BoardView}
use Rattle.i2c_spec.specs.Tree.{root_of, of_device}
use Rattle.i2c_spec.specs.Targets.{TargetState, HoldsBytes, IsQuiet, state_table}
use Rattle.i2c_spec.specs.World.{World, joins_device, start_chips, heard_of}
use Rattle.i2c_spec.specs.Flat.{FlatListener, is_member}
use Rattle.i2c_spec.specs.Conversation.{TalkTold, is_good}
use Rattle.i2c_spec.specs.Conversation.{is_it}

-- device d stands on a bus of root r
abbrev pub IsOf : BoardView → ℕ → ℕ → Type 0
IsOf b r d = root_of b (of_device (λ x. x.bus) 0 b d) ≡ r

-- who listens to the message in progress, as a world lists it
abbrev pub listening : Option ℕ → List Node
listening None = []
listening (Some d) = node.Device d ∷ []

-- The world of root r and the flat world are the same at the devices of that root: their states, and who listens.
-- A device that the transfer hasn't named is quiet; one that it has named is joined.
pub record Same (b : BoardView) (r : ℕ) (w : World) (f : FlatListener) : Type 0 where
  pub board : w.board ≡ b
  pub root : w.root ≡ r
  pub states : (d : ℕ) → IsOf b r d → slice_get w.devices d ≡ slice_get f.states d
  pub bytes : (d : ℕ) (x : TargetState) → IsOf b r d → slice_get f.states d ≡ Some x → HoldsBytes x
  pub quiet : (d : ℕ) (x : TargetState) → IsOf b r d → is_member d f.named ≡ false → slice_get f.states d ≡ Some x → IsQuiet state_table x
  pub hearing : w.hearing ≡ listening f.current
  pub joined : (d : ℕ) → is_member d f.named ≡ true → joins_device w d ≡ true
  pub current : (d : ℕ) → f.current ≡ Some d → is_member d f.named ≡ true

-- in this world an address leads to the device that is granted, and to nobody else
pub record LeadsTo (w : World) (a : ℕ) (granted : Option ℕ) : Type 0 where
  pub found : (d : ℕ) → joins_device w d ≡ true → of_device (λ x. x.addr == a) false w.board d ≡ true → granted ≡ Some d
  pub joined : (d : ℕ) → granted ≡ Some d → joins_device w d ≡ true
  pub addressed : (d : ℕ) → granted ≡ Some d → of_device (λ x. x.addr == a) false w.board d ≡ true
  pub chips : (reading : Bool) → heard_of node.Chip (start_chips w a reading) ≡ []

-- in this world no device has the address, as with the message that switches a mux
abbrev pub IsControl : World → ℕ → Type 0
IsControl w a = (d : ℕ) → joins_device w d ≡ true → of_device (λ x. x.addr == a) false w.board d ≡ true → ⊥

-- one message over two listeners: the same calls, bytes and end, and related listeners
pub record ToldAlike {W V : Type 0} (R : W → V → Type 0) (t : TalkTold W) (u : TalkTold V) : Type 0 where
  pub calls : t.calls ≡ u.calls
  pub bytes : t.bytes ≡ u.bytes
  pub end : t.end ≡ u.end
  pub now : R t.now u.now

-- a transfer ends with a message that is its last, or that didn't go through
abbrev pub EndsTransfer : Bool → End → Type 0
EndsTransfer last e = (last ≡ true) ⊎ (is_good e ≡ false)

-- the transfer hasn't named this device, whose state is this one
abbrev pub IsUnnamed : ℕ → Option TargetState → FlatListener → Type 0
IsUnnamed d o f = (is_member d f.named ≡ false) × (is_it f.current d ≡ false) × (slice_get f.states d ≡ o)

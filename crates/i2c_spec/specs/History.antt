-- The transfers of several callers, one at a time in the flat world.
use Rattle.std.specs.Prelude.{ℕ, ◌==◌, List, [], ◌∷◌, ◌++◌, map, Option, Some, if◌then◌else◌}
use Rattle.std.specs.Option.{option_map, option_and_then}
use Rattle.i2c_base.specs.declared.reply.Reply.{Reply}
use Rattle.i2c_base.specs.declared.reply.Cut.{Cut}
use Rattle.i2c_base.specs.Board.{BoardView}
use Rattle.i2c_base.specs.Transfer.{TransferView}
use Rattle.i2c_spec.specs.Targets.{TargetState, opening_state}
use Rattle.i2c_spec.specs.Flat.{FlatTold, flat}

-- what each caller asks for next, given the replies that it has had
abbrev pub Asks : Type 0
Asks = ℕ → List Reply → Option TransferView

pub record History : Type 0 where
  -- each caller's replies, in order
  pub replies : ℕ → List Reply
  -- the devices that are left
  pub states : List TargetState

abbrev pub opening_history : BoardView → History
opening_history b = record { replies = λ c. []; states = map opening_state b.devices }

abbrev pub changed_at : {X : Type 0} → (ℕ → X) → ℕ → X → ℕ → X
changed_at f c x k = if k == c then x else f k

abbrev pub with_told : History → ℕ → FlatTold → History
with_told h c t = record { replies = changed_at h.replies c (h.replies c ++ t.reply ∷ []); states = t.states }

-- the caller's next transfer, cut as it says, on the devices that the ones before it left
abbrev pub one_more : BoardView → Asks → ℕ → Cut → History → Option History
one_more b asks c cut h = option_map (λ t. with_told h c (flat b h.states t cut)) (asks c (h.replies c))

-- a list of callers with cuts, the newest first. It is none where a caller has no transfer left at its turn
abbrev pub history : BoardView → Asks → List (ℕ × Cut) → Option History
history b asks [] = Some (opening_history b)
history b asks (p ∷ before) = option_and_then (one_more b asks p.0 p.1) (history b asks before)

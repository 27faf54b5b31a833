-- The walks of a caller as the tree tells them: each step is the next one of what is left. A law says that these are the lists
-- of the walk rule; what steps and inductions need is taken of the tree.
use Rattle.std.specs.Prelude.{◌≡◌, ℕ, false, List, [], ◌∷◌, ◌++◌, Option, Some}
use Rattle.i2c_base.specs.declared.entry.Entry.{Entry}
use Rattle.i2c_base.specs.declared.reply.Reply.{Reply}
use Rattle.i2c_base.specs.Board.{BoardView}
use Rattle.i2c_base.specs.Transfer.{TransferView}
use Rattle.i2c_spec.specs.History.{Asks}
use Rattle.bus_spec.specs.Walk.{WalkTree, Ends}
use Rattle.bus_spec.specs.Grammar.{walk_for, seen, first_act, rest_of}
use Rattle.bus_spec.specs.Past.{is_due}
use Rattle.bus_spec.specs.Places.{outcome_of}
use Rattle.bus_spec.specs.Tells.{Tells}
use Rattle.bus_spec.specs.ByTree.{Step, deed_next, replies_in, steps_in}

-- these steps lead through a walk, and leave so much of it: each is the next step of what is left there, and tells all
-- of it. So a message's bytes and its end are those of its conversation with the world of its root where it stands
abbrev pub Leads : BoardView → WalkTree → List Step → WalkTree → Type 0
Leads b w [] rest = rest ≡ w
Leads b w (s ∷ ss) rest =
    Tells b s.before (seen s.before.slot w) s.entry × Leads b (rest_of (seen s.before.slot w) (outcome_of s.entry)) ss rest
    × (s.deed ≡ deed_next (seen s.before.slot w))

-- the steps of one caller, which asks for this after these replies: whole walks, and at last maybe the front of one,
-- which doesn't part a deciding message or line step from its settle
pub data AreWalks (b : BoardView) (asks : List Reply → Option TransferView) : List Reply → List Step → Type 0 where
  none : (rs : List Reply) → AreWalks b asks rs []
  whole : (rs : List Reply) (t : TransferView) (mine rest all : List Step) (r : Reply)
      → asks rs ≡ Some t → Leads b (walk_for b t) mine Ends → replies_in mine ≡ r ∷ []
      → AreWalks b asks (rs ++ r ∷ []) rest → all ≡ mine ++ rest → AreWalks b asks rs all
  front : (rs : List Reply) (t : TransferView) (mine : List Step) (left : WalkTree)
      → asks rs ≡ Some t → Leads b (walk_for b t) mine left → is_due (first_act left) ≡ false
      → AreWalks b asks rs mine

-- each caller's steps in a past are
abbrev pub AreAllWalks : BoardView → Asks → List Entry → Type 0
AreAllWalks b asks past = (c : ℕ) → AreWalks b (asks c) [] (steps_in b asks c past)

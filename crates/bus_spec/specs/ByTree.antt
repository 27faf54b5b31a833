-- The walks of a journal where they are told by the walk tree: what stands before each entry, and what its caller does next. What
-- goes over the steps of a journal takes it from here. `Ruled` tells the same without the tree, and a law says so.
use Rattle.std.specs.Prelude.{◌≡◌, ℕ, ◌==◌, false, List, [], ◌∷◌, ◌++◌, Option, Some, None, if◌then◌else◌}
use Rattle.i2c_base.specs.declared.entry.Entry.{Entry}
use Rattle.i2c_base.specs.declared.entry.Entry.TheVariants as entry
use Rattle.i2c_base.specs.declared.reply.Reply.{Reply}
use Rattle.i2c_base.specs.Board.{BoardView}
use Rattle.i2c_base.specs.Transfer.{TransferView}
use Rattle.i2c_spec.specs.History.{Asks}
use Rattle.bus_spec.specs.Walk.{Act, Settle, WalkTree, Ends, Look, Then}
use Rattle.bus_spec.specs.Slots.{answer_to}
use Rattle.bus_spec.specs.Grammar.{plain}
use Rattle.bus_spec.specs.Readings.{caller_of}
use Rattle.bus_spec.specs.Past.{Now, current, now, is_due}
use Rattle.bus_spec.specs.Places.{outcome_of}
use Rattle.bus_spec.specs.Tells.{Tells}
use Rattle.bus_spec.specs.WalkRule.{Deed, without_marks, PathStep, Saw, Did, IsWalk, first_done}

-- A step is an entry, where everything stood before it, and what is done there, with what it marks where it fails by the port
pub record Step : Type 0 where
  pub before : Now
  pub deed : Deed
  pub entry : Entry

-- the next step of a walk without a look in front
abbrev pub deed_next : WalkTree → Deed
deed_next Ends = without_marks (Settle None)
deed_next (Look ask next) = without_marks (Settle None)
deed_next (Then act note next) = record { act = act; marks = note.marks }

-- an entry as the next step of a walk
abbrev pub step_next : Now → WalkTree → Entry → Step
step_next n w e = record { before = n; deed = deed_next w; entry = e }

-- the replies that steps settle
abbrev pub replies_in : List Step → List Reply
replies_in [] = []
replies_in (s ∷ ss) = reply_in s.entry (replies_in ss)
  where
    reply_in : Entry → List Reply → List Reply
    reply_in (entry.Settle c r cut) rs = r ∷ rs
    reply_in e rs = rs

-- THE STEPS OF A CALLER. A look is answered by what is known of its bus where the next entry stands; an entry is the step that
-- is done there, tells all of it, and what came of it
abbrev pub TellsAct : BoardView → Now → Act → Entry → Type 0
TellsAct b n act e = Tells b n (Then act plain (λ o. Ends)) e

abbrev pub AreTold : BoardView → List PathStep → List Step → Type 0
AreTold b [] steps = steps ≡ []
AreTold b (Saw ask answer ∷ ps) [] = ⊥
AreTold b (Saw ask answer ∷ ps) (s ∷ steps) = (answer ≡ answer_to s.before.slot ask) × AreTold b ps (s ∷ steps)
AreTold b (Did deed out ∷ ps) [] = ⊥
AreTold b (Did deed out ∷ ps) (s ∷ steps) =
    TellsAct b s.before deed.act s.entry × (out ≡ outcome_of s.entry) × (s.deed ≡ deed) × AreTold b ps steps

-- they are the walks of what the caller asks for, one after the other, each after the replies of those before; the last one
-- may be the front of a walk, which doesn't end before a settle
pub data AreTransfers (b : BoardView) (asks : List Reply → Option TransferView) : List Reply → List Step → Type 0 where
  no_more : (rs : List Reply) → AreTransfers b asks rs []
  one_more : (rs : List Reply) (t : TransferView) (walk : List PathStep) (mine rest all : List Step) (r : Reply)
      → asks rs ≡ Some t → IsWalk b t walk → AreTold b walk mine → replies_in mine ≡ r ∷ []
      → AreTransfers b asks (rs ++ r ∷ []) rest → all ≡ mine ++ rest → AreTransfers b asks rs all
  under_way : (rs : List Reply) (t : TransferView) (front rest : List PathStep) (mine : List Step)
      → asks rs ≡ Some t → IsWalk b t (front ++ rest) → AreTold b front mine → is_due (first_done rest) ≡ false
      → AreTransfers b asks rs mine

-- WALKS: the entries of each caller, in order, are its transfers one after the other, each what the walk rule lists for it
-- the steps of a caller in a past, in order
abbrev pub steps_in : BoardView → Asks → ℕ → List Entry → List Step
steps_in b asks c [] = []
steps_in b asks c (e ∷ past) =
    if caller_of e == c then steps_in b asks c past ++ step_next (now b asks past) (current b asks (now b asks past) c) e ∷ []
    else steps_in b asks c past

abbrev pub KeepsWalks : BoardView → Asks → List Entry → Type 0
KeepsWalks b asks past = (c : ℕ) → AreTransfers b (asks c) [] (steps_in b asks c past)

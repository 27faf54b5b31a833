-- Whose turn it is: how far the commands of a script have come with its replies.
use Rattle.std.specs.Prelude.{◌≡◌, ℕ, ◌+◌, ◌<◌, ◌≤◌, ◌==◌, List, [], ◌∷◌, ◌++◌, length, map, take, drop, slice_get, Option, Some, None, if◌then◌else◌}
use Rattle.std.specs.List.{fold, sum_by}
use Rattle.i2c_base.specs.Transfer.{TransferView}
use Rattle.i2c_base.specs.declared.reply.Reply.{Reply}
use Rattle.tools.specs.Dialogues.{Dialogue, AreReplies, place_after, is_over, sum_behind}
use Rattle.caller_core.specs.Runs.{command_dialogue}
use Rattle.caller_core.specs.View.{CommandView}

-- what a command says to the bus
abbrev pub command_talk : CommandView → Dialogue
command_talk c = command_dialogue c.run

-- a command with the replies that it took
pub record Answered : Type 0 where
  pub command : CommandView
  pub replies : List Reply

-- the commands that are over, those that are left, and the replies that the first of these has
pub record Progress : Type 0 where
  pub over : List Answered
  pub left : List CommandView
  pub own : List Reply

-- so many commands at the front ask for nothing: they are over as soon as it is their turn
abbrev pub quiet_front : List CommandView → ℕ
quiet_front [] = 0
quiet_front (c ∷ cs) = if (command_talk c).places == 0 then quiet_front cs + 1 else 0

abbrev pub quiet : CommandView → Answered
quiet c = record { command = c; replies = [] }

abbrev pub turn_to : List Answered → List CommandView → Progress
turn_to over cs = record { over = over ++ map quiet (take (quiet_front cs) cs); left = drop (quiet_front cs) cs; own = [] }

-- a reply goes to the first command that is left; once that is over, it is the next one's turn
abbrev pub over_with : Progress → CommandView → List Reply → List Answered
over_with p c own = p.over ++ record { command = c; replies = own } ∷ []

abbrev pub replied_to : Progress → List CommandView → Reply → Progress
replied_to p [] r = p
replied_to p (c ∷ cs) r =
    if is_over (command_talk c) (place_after (command_talk c) (p.own ++ r ∷ [])) then turn_to (over_with p c (p.own ++ r ∷ [])) cs
    else record p { own = p.own ++ r ∷ [] }

abbrev pub replied : Progress → Reply → Progress
replied p r = replied_to p p.left r

abbrev pub progress : List CommandView → List Reply → Progress
progress cs rs = fold replied (turn_to [] cs) rs

-- what is asked for next: the transfer at the place to which the first command left has come
abbrev pub next_of : List CommandView → List Reply → Option TransferView
next_of [] own = None
next_of (c ∷ cs) own = if is_over (command_talk c) (place_after (command_talk c) own) then None else Some ((command_talk c).at (place_after (command_talk c) own))

abbrev pub asked_at : Progress → Option TransferView
asked_at p = next_of p.left p.own

-- a sum over the transfers of a command, and over all that are still to come, where none is passed over
abbrev pub sum_of : (TransferView → ℕ) → CommandView → ℕ
sum_of f c = sum_behind f (command_talk c) 0

abbrev pub sum_from : (TransferView → ℕ) → List CommandView → List Reply → ℕ
sum_from f [] own = 0
sum_from f (c ∷ cs) own = sum_behind f (command_talk c) (place_after (command_talk c) own) + sum_by (sum_of f) cs

abbrev pub sum_left : (TransferView → ℕ) → Progress → ℕ
sum_left f p = sum_from f p.left p.own

-- the commands from `turn` on are left, the replies from `from` on are those of the first of them, and it has come to `place`
pub record IsAt (cs : List CommandView) (rs : List Reply) (turn from place : ℕ) : Type 0 where
  pub turn_within : turn ≤ length cs
  pub from_within : from ≤ length rs
  pub left : (progress cs rs).left ≡ drop turn cs
  pub own : (progress cs rs).own ≡ drop from rs
  pub here : (c : CommandView) → slice_get cs turn ≡ Some c → place ≡ place_after (command_talk c) (drop from rs)
  pub more : (c : CommandView) → slice_get cs turn ≡ Some c → place < (command_talk c).places
  pub fit : (c : CommandView) → slice_get cs turn ≡ Some c → AreReplies (command_talk c) 0 (drop from rs)

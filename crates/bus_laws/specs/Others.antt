-- What a journal tells of one caller, which the entries of the others leave as it is.
use Rattle.std.specs.Prelude.{◌≡◌, ℕ, List, if◌then◌else◌}
use Rattle.i2c_base.specs.declared.reply.Reply.{Reply}
use Rattle.i2c_base.specs.declared.reply.Cut.{Cut}
use Rattle.i2c_base.specs.Board.{BoardView}
use Rattle.i2c_spec.specs.History.{Asks}
use Rattle.bus_spec.specs.Walk.{WalkTree}
use Rattle.bus_spec.specs.Grammar.{is_over}
use Rattle.bus_spec.specs.Past.{Now, begun}

-- what is ahead of a caller, before its looks are answered: the rest of its walk, or the walk that it begins
abbrev pub ahead : BoardView → Asks → Now → ℕ → WalkTree
ahead b asks n c = if is_over (n.walk c) then begun b (asks c (n.settled c)) else n.walk c

-- what is ahead of a caller, its replies, what its transfer has read so far, and the cut that its last entry tells
pub record CallerTold (b : BoardView) (asks : Asks) (n : Now) (c : ℕ) (w : WalkTree) (replies : List Reply) (got : List ℕ)
    (cut : Cut) : Type 0 where
  pub walk : ahead b asks n c ≡ w
  pub settled : n.settled c ≡ replies
  pub got_is : n.got c ≡ got
  pub cut_is : n.cut c ≡ cut

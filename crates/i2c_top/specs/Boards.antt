-- What a board's text says, and its file: the board, or why it is refused.
use Rattle.std.specs.Prelude.{◌≡◌, ◌≢◌, ℕ, List, Some, Ok, Err}
use Rattle.i2c_base.specs.Board.{BoardView}
use Rattle.i2c_base.specs.declared.rules.RuleBroken.{RuleBroken}
use Rattle.i2c_spec.specs.Rules.{MeetsRules, TellsBroken}
use Rattle.i2c_boardtext.specs.BoardText.{board_of}
use Rattle.i2c_boardtext.specs.declared.fault.BoardFault.{BoardFault}
use Rattle.i2c_boardtext.specs.declared.fault.BoardFault.TheVariants as fault
use Rattle.i2c_top.specs.Files.{Files}
use Rattle.i2c_top.specs.declared.status.BoardRefusal.{BoardRefusal}
use Rattle.i2c_top.specs.declared.status.BoardRefusal.TheVariants as refusal

-- a text spells this board, which meets the rules
pub record IsAccepted (text : List ℕ) (board : BoardView) : Type 0 where
  pub read : board_of text ≡ Ok board
  pub rules : MeetsRules board

-- some text spells it
pub record IsSpelled (board : BoardView) : Type 0 where
  pub text : List ℕ
  pub is_accepted : IsAccepted text board

-- a text has this fault, and being out of memory is none
pub record IsFaulty (text : List ℕ) (f : BoardFault) : Type 0 where
  pub read : board_of text ≡ Err f
  pub of_text : f ≢ fault.Memory

-- it spells a board whose first broken rule is this
pub record IsBroken (text : List ℕ) (r : RuleBroken) : Type 0 where
  pub board : BoardView
  pub read : board_of text ≡ Ok board
  pub broken : TellsBroken board r

-- why a text spells no board that meets the rules
abbrev pub IsRejected : List ℕ → BoardRefusal → Type 0
IsRejected text (refusal.Fault f) = IsFaulty text f
IsRejected text (refusal.Rule r) = IsBroken text r

-- the board's file is there, and its text spells this board, which meets the rules
pub record HasAccepted (file : Files) (name : List ℕ) : Type 0 where
  pub board : BoardView
  pub text : List ℕ
  pub there : file name ≡ Some text
  pub is_accepted : IsAccepted text board

-- it is there, and its text spells none, for this
pub record HasRejected (file : Files) (name : List ℕ) (why : BoardRefusal) : Type 0 where
  pub text : List ℕ
  pub there : file name ≡ Some text
  pub is_rejected : IsRejected text why

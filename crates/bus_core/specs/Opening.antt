-- What a core was opened with, which never changes.
use Rattle.std.specs.Prelude.{◌≡◌, ℕ, ◌<◌, List, Option, Some, slice_get}
use Rattle.i2c_base.specs.Board.{BoardView}
use Rattle.i2c_base.specs.Transfer.{TransferView}
use Rattle.i2c_base.specs.declared.reply.Reply.{Reply}
use Rattle.i2c_spec.specs.Fair.{IsFairCaller}
use Rattle.i2c_spec.specs.Plain.{IsPlainBoard}
use Rattle.i2c_spec.specs.Rules.{MeetsRules}
use Rattle.i2c_spec.specs.Tree.{buses, root_of}
use Rattle.i2c_spec.specs.World.{World}

-- the board, each caller's number with its script, and the world of each port's root
pub record Opening (S : Type 0) : Type 0 where
  pub board : BoardView
  pub scripts : List (ℕ × S)
  pub worlds : List (ℕ × World)

-- a port has this root
pub record HasRoot (roots : List ℕ) (root : ℕ) : Type 0 where
  pub place : ℕ
  pub here : slice_get roots place ≡ Some root

-- the board is an accepted one; the callers are fair, and were opened with it; and each root that a transfer of theirs
-- names has a port
pub record IsSetUp {S : Type 0} (asked : S → List Reply → Option TransferView) (left : S → List Reply → ℕ) (board : S → BoardView)
    (b : BoardView) (scripts : List (ℕ × S)) (roots : List ℕ) : Type 0 where
  pub plain : IsPlainBoard b
  pub rules : MeetsRules b
  pub fair : IsFairCaller asked left board
  pub home : (i : ℕ) (x : ℕ × S) → slice_get scripts i ≡ Some x → board x.1 ≡ b
  pub wired : (i : ℕ) (x : ℕ × S) (rs : List Reply) (t : TransferView) → slice_get scripts i ≡ Some x → asked x.1 rs ≡ Some t
      → t.bus < buses b → HasRoot roots (root_of b t.bus)
